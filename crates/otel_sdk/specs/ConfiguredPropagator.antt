-- The propagator that is made of the listed propagators, in order (the OpenTelemetry specification,
-- "Composite Propagator").
use Rattle.std.specs.Prelude.{◌≡◌, ℕ, List, [], ◌∷◌, codes, fold, refl}
use Rattle.std.specs.List.{flat_map}
use Rattle.std.specs.Str.{bytes_eq}
use Rattle.indexmap.specs.IndexSet.{insert_all}
use Rattle.otel_context.specs.Context.{ContextRecord}
use Rattle.opentelemetry.specs.Carrier.{Pairs, TextMap}
use Rattle.otel_propagators.specs.B3.{b3_extracted, b3_fields, b3_pairs}
use Rattle.otel_propagators.specs.BaggagePropagator.{baggage_extracted, baggage_fields}
use Rattle.otel_propagators.specs.BaggagePropagator.{baggage_pairs}
use Rattle.otel_propagators.specs.TraceContext.{trace_extracted, trace_fields, trace_pairs}
use Rattle.otel_propagators.specs.W3cPropagator.{w3c_extracted, w3c_fields, w3c_pairs}
use Rattle.otel_propagators.specs.declared.b3.form.Form.TheVariants.{Multi, Single}
use Rattle.otel_sdk.specs.EnvPropagators.{defaults}
use Rattle.otel_sdk.specs.declared.env.configured.member.Kind.{Kind}
use Rattle.otel_sdk.specs.declared.env.configured.member.Kind.TheVariants.{W3cTrace, W3cBaggage}
use Rattle.otel_sdk.specs.declared.env.configured.member.Kind.TheVariants.{Zipkin}
use Rattle.otel_sdk.specs.declared.env.propagators.EnvPropagator.{EnvPropagator}
use Rattle.otel_sdk.specs.declared.env.propagators.EnvPropagator.TheVariants.{TraceContext, Baggage}
use Rattle.otel_sdk.specs.declared.env.propagators.EnvPropagator.TheVariants.{B3, B3Multi}

-- the name that lists a propagator
abbrev pub name_of : Kind → EnvPropagator
name_of (W3cTrace trace_context) = TraceContext
name_of (W3cBaggage baggage) = Baggage
name_of (Zipkin Single) = B3
name_of (Zipkin Multi) = B3Multi

-- ---- the propagator of one name

-- the pairs that it sets
abbrev pub pairs_by : EnvPropagator → ContextRecord → Pairs
pairs_by TraceContext context = trace_pairs context
pairs_by Baggage context = baggage_pairs context
pairs_by B3 context = b3_pairs Single context
pairs_by B3Multi context = b3_pairs Multi context

-- the context that it extracts
abbrev pub extracted_by : EnvPropagator → ContextRecord → TextMap → ContextRecord
extracted_by TraceContext context texts = trace_extracted context texts
extracted_by Baggage context texts = baggage_extracted context texts
extracted_by B3 context texts = b3_extracted context texts
extracted_by B3Multi context texts = b3_extracted context texts

-- its fields
abbrev pub fields_by : EnvPropagator → List (List ℕ)
fields_by TraceContext = trace_fields
fields_by Baggage = baggage_fields
fields_by B3 = b3_fields Single
fields_by B3Multi = b3_fields Multi

-- ---- the propagator of a list of names

-- the pairs that they set, in order
abbrev pub listed_pairs : List EnvPropagator → ContextRecord → Pairs
listed_pairs names context = flat_map (λ name. pairs_by name context) names

-- The context that they extract. The first starts from the given context, each other from the
-- context of the previous one.
abbrev pub listed_extracted : List EnvPropagator → ContextRecord → TextMap → ContextRecord
listed_extracted names context texts =
    fold (λ given name. extracted_by name given texts) context names

-- their fields, each once, in order of first appearance
abbrev pub listed_fields : List EnvPropagator → List (List ℕ)
listed_fields names = insert_all bytes_eq [] (flat_map fields_by names)

-- ---- worked rows

-- the default is the propagator of all headers of the W3C
default_example : (context : ContextRecord) (texts : TextMap)
    → (listed_pairs defaults context ≡ w3c_pairs context)
    × (listed_extracted defaults context texts ≡ w3c_extracted context texts)
    × (listed_fields defaults ≡ w3c_fields)
default_example context texts = (refl, refl, refl)

fields_example : listed_fields (B3 ∷ Baggage ∷ B3 ∷ []) ≡ codes "b3" ∷ codes "baggage" ∷ []
fields_example = refl

nothing_example : listed_fields [] ≡ []
nothing_example = refl
