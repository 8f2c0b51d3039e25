use Rattle.std.proofs.Common.{◌≡◌, ◌++◌, List, length}
use Rattle.std.specs.Vec.Iter.{into_iter_items, into_iter_len}
use Rattle.opentelemetry.specs.Progress.{Stands}
use Rattle.opentelemetry.specs.declared.carry.event.StackEvent.{StackEvent}
use Rattle.opentelemetry.proofs.carry.apply_all.Given as goal

abbrev pub invariant-loop-event : goal.invariant-loop-event
invariant-loop-event l =
    ((done : List StackEvent) → Stands done l.fn.outcomes.items l.fn.positions.items l.fn.stack → Stands (done ++ l.yielded) l.outcomes.items l.positions.items l.stack)
    × (l.fn.events.items ≡ l.yielded ++ into_iter_items l.event-iterator)
    × (length (into_iter_items l.event-iterator) ≡ into_iter_len l.event-iterator)
