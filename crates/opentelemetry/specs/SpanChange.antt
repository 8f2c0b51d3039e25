-- The effect of a change on a span. Not in the Rust crate.
use Rattle.std.specs.Prelude.{ℕ, List, codes}
use Rattle.otel_base.specs.KeyValue.{Attribute}
use Rattle.otel_base.specs.View.{attribute_of}
use Rattle.otel_context.specs.SpanEffects.{attributes_of}
use Rattle.otel_context.specs.declared.span.status.Status.{Status}
use Rattle.otel_ids.specs.SpanContext.{SpanContextRecord}
use Rattle.opentelemetry.specs.declared.trace.tracing.change.SpanChange.{SpanChange}
use Rattle.opentelemetry.specs.declared.trace.tracing.change.SpanChange.TheVariants.{SetAttribute}
use Rattle.opentelemetry.specs.declared.trace.tracing.change.SpanChange.TheVariants.{AddEvent}
use Rattle.opentelemetry.specs.declared.trace.tracing.change.SpanChange.TheVariants.{AddLink}
use Rattle.opentelemetry.specs.declared.trace.tracing.change.SpanChange.TheVariants.{SetStatus}
use Rattle.opentelemetry.specs.declared.trace.tracing.change.SpanChange.TheVariants.{UpdateName}
use Rattle.opentelemetry.specs.declared.trace.tracing.change.SpanChange.TheVariants.{Fail}

module _ {S : Type 0} (after_event : S → List ℕ → ℕ → List Attribute → S)
    (after_attribute : S → Attribute → S)
    (after_link : S → SpanContextRecord → List Attribute → S) (after_status : S → Status → S)
    (after_name : S → List ℕ → S) where
  -- the span after the change
  abbrev pub change_of : SpanChange → S → S
  change_of (SetAttribute attribute) s = after_attribute s (attribute_of attribute)
  change_of (AddEvent name time attributes) s = after_event s name time (attributes_of attributes)
  change_of (AddLink context attributes) s = after_link s context (attributes_of attributes)
  change_of (SetStatus status) s = after_status s status
  change_of (UpdateName name) s = after_name s name
  change_of (Fail time attributes status) s =
      after_status (after_event s (codes "exception") time (attributes_of attributes)) status
