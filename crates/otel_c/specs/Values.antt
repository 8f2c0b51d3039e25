-- The contexts of the values of headers.
use Rattle.std.specs.Prelude.{◌≡◌, ◌⊎◌, ℕ, true, List, [], ◌∷◌, Option, Some}
use Rattle.std.specs.FinMap as fin
use Rattle.http_header.specs.FieldValue.{is_visible_text}
use Rattle.otel_context.specs.Context.{ContextRecord, empty_context, span_context}
use Rattle.opentelemetry.specs.Carrier.{TextMap}
use Rattle.otel_propagators.specs.BaggagePropagator.{baggage_key}
use Rattle.otel_propagators.specs.TraceContext.{traceparent_key, tracestate_key, trace_extracted}
use Rattle.otel_c.specs.declared.object.Object.{Object}
use Rattle.otel_c.specs.declared.span.SpanParts.{SpanParts}
use Rattle.otel_c.specs.declared.status.Status.{Status}
use Rattle.otel_c.specs.Context.{extracted}
use Rattle.otel_c.specs.Object.{context_of}
use Rattle.otel_c.specs.Room.{Holds, IsLong}
use Rattle.otel_c.specs.Span.{parts_of, state_header}
use Rattle.otel_c.specs.Status.{IsNoText, IsOutOfMemory, IsUnsendable}

-- the texts of a carrier with one value for each name
abbrev pub texts_of : List ℕ → List ℕ → List ℕ → TextMap
texts_of baggage traceparent tracestate = fin.from_entries
    ((baggage_key, baggage) ∷ (traceparent_key, traceparent) ∷ (tracestate_key, tracestate) ∷ [])

-- the context is the one that is extracted from these values, each of which a header can have
pub record ReadsAs (traceparent tracestate baggage : List ℕ) (context : ContextRecord)
    : Type 0 where
  pub parent_readable : is_visible_text traceparent ≡ true
  pub state_readable : is_visible_text tracestate ≡ true
  pub baggage_readable : is_visible_text baggage ≡ true
  pub is : context ≡ extracted empty_context (texts_of baggage traceparent tracestate)

-- the object is that context
pub record Reads (traceparent tracestate baggage : List ℕ) (new : Option Object) : Type 0 where
  pub context : ContextRecord
  pub given : ReadsAs traceparent tracestate baggage context
  pub into : context_of new ≡ Some context

-- why a value can't be one of a header
abbrev pub IsUnreadable : List ℕ → Status → Type 0
IsUnreadable value s = IsNoText value s ⊎ IsUnsendable value s

-- why no context was made
abbrev pub ReadRefused : List ℕ → List ℕ → List ℕ → Status → Type 0
ReadRefused traceparent tracestate baggage s =
    IsOutOfMemory s
    ⊎ (IsUnreadable traceparent s ⊎ (IsUnreadable tracestate s ⊎ IsUnreadable baggage s))

-- ---- only the span

-- the context has the span that is extracted from these values, which headers can have
pub record ReadsSpan (traceparent tracestate : List ℕ) (context : ContextRecord) : Type 0 where
  pub parent_readable : is_visible_text traceparent ≡ true
  pub state_readable : is_visible_text tracestate ≡ true
  pub is : context ≡ trace_extracted empty_context (texts_of [] traceparent tracestate)

-- the parts are the ones of that span, and the room holds the header of its trace state
pub record WritesSpan (traceparent tracestate : List ℕ) (parts : SpanParts) (old new : List ℕ)
    (written : ℕ) : Type 0 where
  pub context : ContextRecord
  pub given : ReadsSpan traceparent tracestate context
  pub parts_are : parts ≡ parts_of (span_context context)
  pub holds : Holds (state_header context) old new written

-- why no span was read
abbrev pub SpanRefused : List ℕ → List ℕ → Status → Type 0
SpanRefused traceparent tracestate s =
    IsOutOfMemory s ⊎ (IsUnreadable traceparent s ⊎ IsUnreadable tracestate s)

-- the header of the span's trace state is longer than the room
pub record SpanIsLong (traceparent tracestate old : List ℕ) (written : ℕ) (s : Status)
    : Type 0 where
  pub context : ContextRecord
  pub given : ReadsSpan traceparent tracestate context
  pub long : IsLong (state_header context) old written s

-- why no span was written
abbrev pub WriteSpanRefused : List ℕ → List ℕ → List ℕ → ℕ → Status → Type 0
WriteSpanRefused traceparent tracestate old written s =
    SpanRefused traceparent tracestate s ⊎ SpanIsLong traceparent tracestate old written s
