-- The pairs that the propagator of all three headers sets, and the contexts that it extracts.
use Rattle.std.specs.Prelude.{ℕ, List, ◌++◌}
use Rattle.otel_context.specs.Context.{ContextRecord}
use Rattle.opentelemetry.specs.Carrier.{Pairs, TextMap}
use Rattle.otel_propagators.specs.BaggagePropagator.{baggage_fields, baggage_pairs}
use Rattle.otel_propagators.specs.BaggagePropagator.{baggage_extracted}
use Rattle.otel_propagators.specs.TraceContext.{trace_fields, trace_pairs, trace_extracted}

-- the fields of `W3cPropagator`: `traceparent`, `tracestate` and `baggage`
abbrev pub w3c_fields : List (List ℕ)
w3c_fields = trace_fields ++ baggage_fields

-- the pairs that are set: the ones of the span context, and then the one of the baggage
abbrev pub w3c_pairs : ContextRecord → Pairs
w3c_pairs context = trace_pairs context ++ baggage_pairs context

-- the context that is extracted: first the span, and then the baggage, into the context with it
abbrev pub w3c_extracted : ContextRecord → TextMap → ContextRecord
w3c_extracted context texts = baggage_extracted (trace_extracted context texts) texts
