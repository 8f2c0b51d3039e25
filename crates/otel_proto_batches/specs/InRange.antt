-- Spans whose numbers fit their types, as those of all programs.
use Rattle.std.specs.Prelude.{ℤ, ◌<◌, ◌^◌, List, ⊤}
use Rattle.std.specs.Int.{w64}
use Rattle.std.specs.Int.RustNames.{FitsSigned}
use Rattle.std.specs.List.{All}
use Rattle.otel_base.specs.Array.{ArrayValue, booleans, integers, texts}
use Rattle.otel_base.specs.KeyValue.{Attribute}
use Rattle.otel_base.specs.Value as value
use Rattle.otel_base.specs.Value.{AttributeValue}
use Rattle.otel_ids.specs.SpanContext.{SpanContextRecord}
use Rattle.opentelemetry.specs.Event.{EventRecord, LinkRecord}
use Rattle.otel_sdk_span.specs.SpanData.{SpanRecord}

-- an integer of 64 bits with its sign
abbrev pub IsInteger : ℤ → Type 0
IsInteger z = FitsSigned w64 z

-- its integers have 64 bits
abbrev pub IsArrayInRange : ArrayValue → Type 0
IsArrayInRange (booleans bs) = ⊤
IsArrayInRange (integers zs) = All IsInteger zs
IsArrayInRange (texts ss) = ⊤

abbrev pub IsValueInRange : AttributeValue → Type 0
IsValueInRange (value.boolean b) = ⊤
IsValueInRange (value.integer z) = IsInteger z
IsValueInRange (value.text s) = ⊤
IsValueInRange (value.array xs) = IsArrayInRange xs

abbrev pub AreInRange : List Attribute → Type 0
AreInRange = All (λ a. IsValueInRange a.1)

-- the trace id has 128 bits, the span id 64, the flags 8
pub record IsContextInRange (c : SpanContextRecord) : Type 0 where
  pub trace_id : c.trace_id < 2 ^ 128
  pub span_id : c.span_id < 2 ^ 64
  pub flags : c.trace_flags < 256

-- counts have 32 bits
pub record IsEventInRange (e : EventRecord) : Type 0 where
  pub timestamp : e.timestamp < 2 ^ 64
  pub attributes : AreInRange e.attributes
  pub dropped : e.dropped_attributes_count < 2 ^ 32

pub record IsLinkInRange (l : LinkRecord) : Type 0 where
  pub context : IsContextInRange l.span_context
  pub attributes : AreInRange l.attributes
  pub dropped : l.dropped_attributes_count < 2 ^ 32

-- the parent's id and the times have 64 bits
pub record IsInRange (s : SpanRecord) : Type 0 where
  pub context : IsContextInRange s.span_context
  pub parent : s.parent_span_id < 2 ^ 64
  pub start : s.start_time < 2 ^ 64
  pub end : s.end_time < 2 ^ 64
  pub attributes : AreInRange s.attributes
  pub events : All IsEventInRange s.events
  pub links : All IsLinkInRange s.links
  pub dropped_attributes : s.dropped_attributes < 2 ^ 32
  pub dropped_events : s.dropped_events < 2 ^ 32
  pub dropped_links : s.dropped_links < 2 ^ 32
  pub scope : AreInRange s.scope.attributes
