-- The lines of the outcomes so far are written.
use Rattle.std.proofs.Common.{take}
use Rattle.std.specs.List.{enumerate_from, flat_map}
use Rattle.std.specs.Io.KnownBytes.{Appends}
use Rattle.otel_carry.specs.Report.{outcome_line}
use Rattle.otel_carry.proofs.report.write_outcomes.Given as goal

abbrev pub invariant-loop-number : goal.invariant-loop-number
invariant-loop-number g l =
    Appends (g.W.Write.contents l.fn.output) (g.W.Write.contents l.output)
    (flat_map (λ it. outcome_line it.0 it.1) (take l.number (enumerate_from 0 l.outcomes)))
