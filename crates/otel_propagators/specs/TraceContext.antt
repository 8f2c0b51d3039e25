-- The pairs that the propagator of trace contexts sets, and the contexts that it extracts [W3C
-- trace-context-2, "traceparent Header" and "tracestate Header"].
use Rattle.std.specs.Prelude.{ℕ, ◌==◌, Bool, true, ◌&&◌, not, List, [], ◌∷◌}
use Rattle.std.specs.Prelude.{Option, if◌then◌else◌, codes}
use Rattle.std.specs.Option.{option_and_then, option_map_or}
use Rattle.otel_ids.specs.TraceState.{Pair, header}
use Rattle.otel_ids.specs.Reading.{reading}
use Rattle.otel_ids.specs.SpanContext.{SpanContextRecord}
use Rattle.otel_context.specs.Context.{ContextRecord, span_context, with_remote_span_context}
use Rattle.opentelemetry.specs.Carrier.{Pairs, TextMap, at}
use Rattle.otel_propagators.specs.TraceParent.{Parent, parent_with, parent_text, parent_of}

-- the name of the header with the ids and flags [W3C trace-context-2, "Header Name"]
abbrev pub traceparent_key : List ℕ
traceparent_key = codes "traceparent"

-- the name of the header with the trace state [W3C trace-context-2, "Header Name"]
abbrev pub tracestate_key : List ℕ
tracestate_key = codes "tracestate"

-- the fields, in the order in which they are set
abbrev pub trace_fields : List (List ℕ)
trace_fields = traceparent_key ∷ tracestate_key ∷ []

-- ---- injection

-- the `traceparent` of a span context: all eight bits of its flags
abbrev pub parent : SpanContextRecord → Parent
parent context = parent_with context.trace_id context.span_id context.trace_flags

-- whether both ids are nonzero
abbrev pub is_valid : SpanContextRecord → Bool
is_valid context = not (context.trace_id == 0) && not (context.span_id == 0)

-- the pairs of a span context: `traceparent`, and then `tracestate` with the header of its trace
-- state, even if that is empty; none if the span context isn't valid
abbrev pub span_context_pairs : SpanContextRecord → Pairs
span_context_pairs context =
    if is_valid context
    then (traceparent_key, parent_text (parent context))
    ∷ (tracestate_key, header context.trace_state) ∷ []
    else []

-- the pairs of a context: the pairs of its span context
abbrev pub trace_pairs : ContextRecord → Pairs
trace_pairs context = span_context_pairs (span_context context)

-- ---- extraction

-- the trace state read from the value of `tracestate`, or the empty one if the value is absent or
-- can't be read: a faulty `tracestate` doesn't affect the `traceparent` [W3C trace-context-2,
-- "tracestate Header": a failure to parse it must not affect the parsing of `traceparent`]
abbrev pub state_of : Option (List ℕ) → List Pair
state_of value = option_map_or (λ pairs. pairs) (option_and_then reading value) []

-- the remote span context of these ids and flags, with that trace state
abbrev pub remote : Parent → List Pair → SpanContextRecord
remote p state = record {
  trace_id = p.trace_id;
  span_id = p.span_id;
  trace_flags = p.flags;
  is_remote = true;
  trace_state = state;
}

-- the context with the remote span context of the values of `traceparent` and `tracestate`, or the
-- context itself if `traceparent` is absent or doesn't have the right form
abbrev pub extracted_by : ContextRecord → Option (List ℕ) → Option (List ℕ) → ContextRecord
extracted_by context traceparent tracestate =
    option_map_or (λ p. with_remote_span_context context (remote p (state_of tracestate)))
    (option_and_then parent_of traceparent) context

-- the context that is extracted from a carrier's texts into a context
abbrev pub trace_extracted : ContextRecord → TextMap → ContextRecord
trace_extracted context texts =
    extracted_by context (at texts traceparent_key) (at texts tracestate_key)
