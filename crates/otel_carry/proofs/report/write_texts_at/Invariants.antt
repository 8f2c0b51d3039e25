-- The lines of the texts at the keys so far are written.
use Rattle.std.proofs.Common.{take}
use Rattle.std.specs.List.{flat_map}
use Rattle.std.specs.Io.KnownBytes.{Appends}
use Rattle.opentelemetry.specs.Carrier.{text_map}
use Rattle.otel_carry.specs.Report.{text_line}
use Rattle.otel_carry.proofs.report.write_texts_at.Given as goal

abbrev pub invariant-loop-key : goal.invariant-loop-key
invariant-loop-key g l =
    Appends (g.W.Write.contents l.fn.output) (g.W.Write.contents l.output)
    (flat_map (λ key. text_line (text_map l.texts.entries) key.now) (take l.key-index l.keys))
