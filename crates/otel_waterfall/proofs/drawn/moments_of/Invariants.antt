-- The moments so far.
use Rattle.std.proofs.Common.{◌≡◌, map, take}
use Rattle.otel_waterfall.proofs.drawn.moments_of.Given as goal

abbrev pub invariant-loop-event : goal.invariant-loop-event
invariant-loop-event l = l.moments.items ≡ map (λ e. e.timestamp) (take l.event-index l.events)
