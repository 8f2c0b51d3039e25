-- The pairs that the propagator of the header `baggage` sets, and the contexts that it extracts.
use Rattle.std.specs.Prelude.{ℕ, List, [], ◌∷◌, codes}
use Rattle.std.specs.Option.{option_map_or}
use Rattle.otel_context.specs.BaggageHeader.{header}
use Rattle.otel_context.specs.BaggageMember.{Member}
use Rattle.otel_context.specs.Context.{ContextRecord, with_baggage}
use Rattle.opentelemetry.specs.Carrier.{Pairs, TextMap, get}
use Rattle.otel_propagators.specs.BaggageReading.{read_baggage}

-- the name of the header (W3C baggage, "Header Name")
abbrev pub baggage_key : List ℕ
baggage_key = codes "baggage"

-- the fields of `BaggagePropagator`
abbrev pub baggage_fields : List (List ℕ)
baggage_fields = baggage_key ∷ []

-- the members of a context's baggage, or none if it has no baggage
abbrev pub members : ContextRecord → List Member
members context = option_map_or (λ ms. ms) context.baggage []

-- The pair that is set: `baggage` with the header of the context's baggage. If there are no
-- members, the header is the empty text, which is also set.
abbrev pub baggage_pairs : ContextRecord → Pairs
baggage_pairs context = (baggage_key, header (members context)) ∷ []

-- The context that is extracted: the given one with the baggage read from the value of `baggage`,
-- even if that has no members; without such a value, the given one.
abbrev pub baggage_extracted : ContextRecord → TextMap → ContextRecord
baggage_extracted context texts =
    option_map_or (λ text. with_baggage context (read_baggage text)) (get texts baggage_key) context
