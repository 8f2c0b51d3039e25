-- The spans so far are drawn.
use Rattle.std.proofs.Common.{◌≡◌, map, take}
use Rattle.otel_waterfall.specs.Drawn.{look}
use Rattle.otel_waterfall.specs.Page as spec
use Rattle.otel_waterfall.proofs.page.drawn_spans.Given as goal

abbrev pub invariant-loop-span : goal.invariant-loop-span
invariant-loop-span l =
    map look l.drawn.items ≡ map spec.look_of_span (take l.span-index l.spans)
