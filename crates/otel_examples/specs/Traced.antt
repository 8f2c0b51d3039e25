-- A span that was started, ended and handed to a processor.
use Rattle.std.specs.Prelude.{◌≡◌, ℕ, ℤ, Option, Some, None, codes}
use Rattle.otel_base.specs.KeyValue.{Attribute}
use Rattle.otel_base.specs.Value.{integer}
use Rattle.otel_context.specs.Context.{ContextRecord}
use Rattle.opentelemetry.specs.SpanBuilder.{BuilderRecord, from_name}
use Rattle.otel_sdk_span.specs.Span.{SpanState, after_attribute, after_end}
use Rattle.otel_sdk_span.specs.SpanData.{SpanRecord}
use Rattle.otel_sdk.specs.Processor.{AddsToAccount, ProcessorCalls}

-- The processor got the data of a span, and accounts for it. A span that doesn't record has no
-- data.
abbrev pub IsHandedOver : {Q : Type 0} → ProcessorCalls Q → Option SpanRecord → Q → Q → Type 0
IsHandedOver calls None old new = new ≡ old
IsHandedOver calls (Some recorded) old new =
    calls.ends old recorded new × AddsToAccount calls recorded old new

-- the attribute of an item
abbrev pub of_item : ℤ → Attribute
of_item item = (codes "item", integer item)

-- A span named `price` that may start under the parent got the item's attribute, ended at that
-- timestamp, and was handed to a processor.
pub record IsTraced {Q : Type 0} (MayStart : BuilderRecord → ContextRecord → SpanState → Type 0)
    (calls : ProcessorCalls Q) (parent : ContextRecord) (item : ℤ) (end : ℕ) (old new : Q)
    : Type 0 where
  pub span : SpanState
  pub may_start : MayStart (from_name (codes "price")) parent span
  pub handed_over : IsHandedOver calls
      (after_end (after_attribute span (of_item item)) end).recorded old new
