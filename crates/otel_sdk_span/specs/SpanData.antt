-- The recorded data of a span.
use Rattle.std.specs.Prelude.{ℕ, List, Bool}
use Rattle.otel_base.specs.InstrumentationScope.{Scope}
use Rattle.otel_base.specs.KeyValue.{Attribute}
use Rattle.otel_context.specs.declared.span.status.SpanKind.{SpanKind}
use Rattle.otel_context.specs.declared.span.status.Status.{Status}
use Rattle.otel_ids.specs.SpanContext.{SpanContextRecord}
use Rattle.opentelemetry.specs.Event.{EventRecord, LinkRecord}

-- The span context; the parent's span id, 0 for a root, and whether the parent is remote; the kind
-- and the name; the start and the end in nanoseconds since 1970; the attributes, events and links
-- in order, each with the number of dropped ones; the status, and the tracer's scope [OpenTelemetry
-- trace SDK, "Additional span interfaces"; the Rust crate's `SpanData`]
pub record SpanRecord : Type 0 where
  pub span_context : SpanContextRecord
  pub parent_span_id : ℕ
  pub parent_span_is_remote : Bool
  pub span_kind : SpanKind
  pub name : List ℕ
  pub start_time : ℕ
  pub end_time : ℕ
  pub attributes : List Attribute
  pub dropped_attributes : ℕ
  pub events : List EventRecord
  pub dropped_events : ℕ
  pub links : List LinkRecord
  pub dropped_links : ℕ
  pub status : Status
  pub scope : Scope
