-- Copying the members of a baggage one by one.
use Rattle.std.proofs.Common.{ℕ, List, Option}
use Rattle.otel_context.specs.BaggageMember.{Member}
use Rattle.otel_sdk_span.specs.Span.{SpanState}
use Rattle.otel_sdk.specs.BaggageProcessor.{SetsOrCounts, attributes_of}

-- What copying the remaining members leaves from here, copying all of them leaves from the start.
pub record CopiesOn (keys : Option (List (List ℕ))) (all rest : List Member) (old now : SpanState)
    (missed count : ℕ) : Type 0 where
  pub goes : (begun : SpanState) (total : ℕ)
      → SetsOrCounts (attributes_of keys rest) now count begun total
      → SetsOrCounts (attributes_of keys all) old missed begun total
