use Rattle.std.proofs.Common.{map}
use Rattle.otel_context.specs.KeyValueMetadata.{from_key_value}
use Rattle.otel_context.proofs.BaggageTurns.{InsertedSoFar}
use Rattle.otel_context.proofs.baggage.Baggage.from_key_values.Given as goal

abbrev pub invariant-loop-attribute : goal.invariant-loop-attribute
invariant-loop-attribute l = InsertedSoFar (map from_key_value l.fn.attributes.items) l.baggage (map from_key_value l.yielded) (map from_key_value l.attribute-iterator.rest.items)
