-- The traces so far are on the page.
use Rattle.std.proofs.Common.{take}
use Rattle.std.specs.String.{string_bytes}
use Rattle.otel_waterfall.specs.Page as spec
use Rattle.otel_waterfall.proofs.page.traces_text.Given as goal

abbrev pub invariant-loop-trace : goal.invariant-loop-trace
invariant-loop-trace l =
    spec.AreTraces l.is_alone (take l.trace-index l.traces) (string_bytes l.text)
