use Rattle.otel_context.specs.BaggageView.{entry_members}
use Rattle.otel_context.proofs.BaggageTurns.{InsertedSoFar}
use Rattle.otel_context.proofs.baggage.Baggage.from_pairs.Given as goal

abbrev pub invariant-loop-key : goal.invariant-loop-key
invariant-loop-key l = InsertedSoFar (entry_members l.fn.members.items) l.baggage (entry_members l.yielded) (entry_members l.key-iterator.rest.items)
