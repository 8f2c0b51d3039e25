use Rattle.otel_context.proofs.BaggageTurns.{InsertedSoFar}
use Rattle.otel_context.proofs.baggage.Baggage.from_key_values_with_metadata.Given as goal

abbrev pub invariant-loop-member : goal.invariant-loop-member
invariant-loop-member l = InsertedSoFar l.fn.members.items l.baggage l.yielded l.member-iterator.rest.items
