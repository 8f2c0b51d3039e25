-- The effects of the calls on contexts.
use Rattle.std.specs.Prelude.{◌≡◌, ◌⊎◌, ◌++◌, fold, Option, Some}
use Rattle.http_header.specs.HeaderMap.{remove}
use Rattle.otel_context.specs.Context.{ContextRecord}
use Rattle.opentelemetry.specs.Carrier.{TextMap, Sets}
use Rattle.otel_http.specs.Headers.{Headers, texts}
use Rattle.otel_propagators.specs.TraceContext.{trace_fields, trace_pairs, trace_extracted}
use Rattle.otel_propagators.specs.BaggagePropagator.{baggage_fields, baggage_pairs}
use Rattle.otel_propagators.specs.BaggagePropagator.{baggage_extracted}
use Rattle.otel_c.specs.declared.object.Object.{Object}
use Rattle.otel_c.specs.declared.status.Status.{Status}
use Rattle.otel_c.specs.Object.{headers_of, context_of}
use Rattle.otel_c.specs.Status.{IsOutOfMemory, IsOfCarrier, IsOtherKind}

-- the context with the values read from `traceparent`, `tracestate` and `baggage`
abbrev pub extracted : ContextRecord → TextMap → ContextRecord
extracted context texts = baggage_extracted (trace_extracted context texts) texts

-- the context has the values of the headers
pub record Extracts (object old new : Option Object) : Type 0 where
  pub headers : Headers
  pub context : ContextRecord
  pub carrier : headers_of object ≡ Some headers
  pub from : context_of old ≡ Some context
  pub into : context_of new ≡ Some (extracted context (texts headers))

-- why nothing was extracted
abbrev pub ExtractRefused : Option Object → Option Object → Status → Type 0
ExtractRefused object old s =
    IsOutOfMemory s ⊎ (IsOtherKind (headers_of object) s ⊎ IsOtherKind (context_of old) s)

-- the headers without the names that carry a context
abbrev pub cleared : Headers → Headers
cleared headers = fold remove headers (trace_fields ++ baggage_fields)

-- the texts have the texts of the context's span, and then the text of its baggage
pub record SetsBoth (context : ContextRecord) (old new : TextMap) : Type 0 where
  pub middle : TextMap
  pub trace : Sets old (trace_pairs context) middle
  pub baggage : Sets middle (baggage_pairs context) new

-- the headers carry the context, and nothing that they carried before
pub record Injects (object old new : Option Object) : Type 0 where
  pub context : ContextRecord
  pub from : context_of object ≡ Some context
  pub before : Headers
  pub after : Headers
  pub had : headers_of old ≡ Some before
  pub has : headers_of new ≡ Some after
  pub sets : SetsBoth context (texts (cleared before)) (texts after)

-- why the context wasn't injected completely
abbrev pub InjectRefused : Option Object → Option Object → Status → Type 0
InjectRefused object old s =
    IsOfCarrier s ⊎ (IsOtherKind (context_of object) s ⊎ IsOtherKind (headers_of old) s)

-- both hold the same context
pub record Copies (object new : Option Object) : Type 0 where
  pub context : ContextRecord
  pub from : context_of object ≡ Some context
  pub into : context_of new ≡ Some context

-- why no copy of the context was made
abbrev pub CopyRefused : Option Object → Status → Type 0
CopyRefused object s = IsOutOfMemory s ⊎ IsOtherKind (context_of object) s
