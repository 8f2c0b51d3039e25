-- The spans so far are drawn.
use Rattle.std.proofs.Common.{◌≡◌, map, take}
use Rattle.otel_waterfall.specs.Drawn as spec
use Rattle.otel_waterfall.proofs.drawn.drawn.Given as goal

abbrev pub invariant-loop-span : goal.invariant-loop-span
invariant-loop-span l =
    map spec.look l.spans.items ≡ map (spec.look_of l.is_ascii) (take l.span-index l.batch)
