-- The spans that a recording tracer starts.
use Rattle.std.specs.Prelude.{ℕ, ◌+◌, ◌%◌, ◌^◌, ◌==◌, if◌then◌else◌, false, []}
use Rattle.otel_ids.specs.SpanContext.{SpanContextRecord}
use Rattle.otel_context.specs.Context.{ContextRecord, span_context}
use Rattle.opentelemetry.specs.SpanBuilder.{BuilderRecord}
use Rattle.otel_examples.specs.Recording.{Recorded, new}

-- the span context of a child: in the parent's trace, or in the tracer's if the parent has none;
-- its id is the parent's plus one, in 64 bits: a child of the ids 7 and 1 has the ids 7 and 2
abbrev pub child_of : ℕ → SpanContextRecord → SpanContextRecord
child_of trace_id parent = record {
  trace_id = if parent.trace_id == 0 then trace_id else parent.trace_id;
  span_id = (parent.span_id + 1) % 2 ^ 64;
  trace_flags = 1;
  is_remote = false;
  trace_state = [];
}

-- the span that a tracer with this trace id starts from a builder under a parent
abbrev pub started : ℕ → BuilderRecord → ContextRecord → Recorded
started trace_id builder parent = new (child_of trace_id (span_context parent)) builder.name
