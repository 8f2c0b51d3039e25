-- The span of a context in C.
use Rattle.std.specs.Prelude.{◌≡◌, ◌⊎◌, ℕ, true, List, Option, None, Some, if◌then◌else◌}
use Rattle.std.specs.Int.{w64, w128, to_be_bytes, from_be_bytes}
use Rattle.http_header.specs.FieldValue.{is_visible_text}
use Rattle.otel_ids.specs.Reading.{Reads}
use Rattle.otel_ids.specs.SpanContext.{SpanContextRecord}
use Rattle.otel_ids.specs.TraceState.{Pair, header}
use Rattle.otel_context.specs.Context.{ContextRecord, span_context, with_remote_span_context}
use Rattle.otel_propagators.specs.TraceContext.{is_valid, parent}
use Rattle.otel_propagators.specs.TraceParent.{parent_text}
use Rattle.otel_c.specs.declared.object.Object.{Object}
use Rattle.otel_c.specs.declared.span.SpanParts.{SpanParts}
use Rattle.otel_c.specs.declared.status.Status.{Status}
use Rattle.otel_c.specs.Object.{context_of}
use Rattle.otel_c.specs.Context.{CopyRefused}
use Rattle.otel_c.specs.Room.{Holds, IsLong, FoundRefused}
use Rattle.otel_c.specs.Status.{IsOutOfMemory, IsUnsendable}
use Rattle.otel_c.specs.TraceState.{ReadRefused}

-- the ids as bytes, the most significant first, the flags, and whether it is remote
abbrev pub parts_of : SpanContextRecord → SpanParts
parts_of context = record {
  trace_id = to_be_bytes w128 context.trace_id;
  span_id = to_be_bytes w64 context.span_id;
  flags = context.trace_flags;
  is_remote = context.is_remote;
}

-- the value of `traceparent` for a span, if neither of its ids is 0
abbrev pub parent_header : SpanContextRecord → Option (List ℕ)
parent_header span = if is_valid span then Some (parent_text (parent span)) else None

-- the value of `traceparent` for the context's span
abbrev pub traceparent_of : ContextRecord → Option (List ℕ)
traceparent_of context = parent_header (span_context context)

-- why no value of `traceparent` was written
abbrev pub ParentRefused : SpanContextRecord → List ℕ → ℕ → Status → Type 0
ParentRefused span old written s =
    IsOutOfMemory s ⊎ FoundRefused (parent_header span) old written s

-- the parts are the ones of the context's span
pub record ShowsSpan (object : Option Object) (new : SpanParts) : Type 0 where
  pub context : ContextRecord
  pub from : context_of object ≡ Some context
  pub parts : new ≡ parts_of (span_context context)

-- the header of the trace state of the context's span
abbrev pub state_header : ContextRecord → List ℕ
state_header context = header (span_context context).trace_state

-- the room holds that header
pub record ShowsState (object : Option Object) (old new : List ℕ) (written : ℕ) : Type 0 where
  pub context : ContextRecord
  pub from : context_of object ≡ Some context
  pub holds : Holds (state_header context) old new written

-- that header is longer than the room
pub record StateIsLong (object : Option Object) (old : List ℕ) (written : ℕ) (s : Status)
    : Type 0 where
  pub context : ContextRecord
  pub from : context_of object ≡ Some context
  pub long : IsLong (state_header context) old written s

-- why no header was written
abbrev pub ShowStateRefused : Option Object → List ℕ → ℕ → Status → Type 0
ShowStateRefused object old written s = CopyRefused object s ⊎ StateIsLong object old written s

-- the span context of these parts and this trace state
abbrev pub span_of : SpanParts → List Pair → SpanContextRecord
span_of parts pairs = record {
  trace_id = from_be_bytes w128 parts.trace_id;
  span_id = from_be_bytes w64 parts.span_id;
  trace_flags = parts.flags;
  is_remote = parts.is_remote;
  trace_state = pairs;
}

-- the header reads as these pairs, which a header can carry
pub record ReadsSendable (received : List ℕ) (pairs : List Pair) : Type 0 where
  pub reads : Reads received pairs
  pub sendable : is_visible_text (header pairs) ≡ true

-- the context's span has these parts and the trace state of the header
pub record SetsSpan (parts : SpanParts) (received : List ℕ) (old new : Option Object) : Type 0 where
  pub context : ContextRecord
  pub pairs : List Pair
  pub from : context_of old ≡ Some context
  pub reads : ReadsSendable received pairs
  pub into : context_of new ≡ Some (with_remote_span_context context (span_of parts pairs))

-- the header reads as a trace state that no header can carry
pub record ReadsUnsendable (received : List ℕ) (s : Status) : Type 0 where
  pub pairs : List Pair
  pub reads : Reads received pairs
  pub why : IsUnsendable (header pairs) s

-- why the header wasn't read as a trace state that can be sent
abbrev pub ReadSendableRefused : List ℕ → Status → Type 0
ReadSendableRefused received s = ReadRefused received s ⊎ ReadsUnsendable received s

-- why no span was set
abbrev pub SetSpanRefused : List ℕ → Option Object → Status → Type 0
SetSpanRefused received old s = CopyRefused old s ⊎ ReadSendableRefused received s
