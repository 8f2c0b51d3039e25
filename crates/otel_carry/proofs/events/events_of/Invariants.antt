-- The lines so far request the events so far, and there are at most as many attaches as lines.
use Rattle.std.proofs.Common.{◌≡◌, ◌≤◌, length, take}
use Rattle.opentelemetry.specs.Run.{attaches_of}
use Rattle.otel_carry.specs.Events.{AskFor, lines_of}
use Rattle.otel_carry.proofs.events.events_of.Given as goal

abbrev pub invariant-loop-index : goal.invariant-loop-index
invariant-loop-index l =
    (goal.iterator-loop-index).can_next l.index-iterator ×
    (goal.iterator-loop-index).is_finite l.index-iterator ×
    AskFor (take (length l.yielded) (lines_of l.text)) l.events.items ×
    (l.attaches ≡ attaches_of l.events.items) ×
    (l.attaches ≤ length l.yielded)
