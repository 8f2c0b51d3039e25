-- The values that contracts see for the fields of this crate's types.
use Rattle.std.specs.Prelude.{Option, Some, None}
use Rattle.otel_ids.specs.SpanContext.{SpanContextRecord}
use Rattle.otel_sdk_span.specs.SpanData.{SpanRecord}
use Rattle.otel_sdk_span.specs.declared.span.Kept.{Kept}
use Rattle.otel_sdk_span.specs.declared.span.Kept.TheVariants.{Recorded, Context}

-- the span context of a span with this content
abbrev pub context_in : Kept → SpanContextRecord
context_in (Recorded d) = d.value.span_context
context_in (Context context) = context

-- the recorded data of a span with this content, if it has ever recorded
abbrev pub recorded_in : Kept → Option SpanRecord
recorded_in (Recorded d) = Some d.value
recorded_in (Context context) = None
