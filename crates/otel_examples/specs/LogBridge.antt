-- A log record that names the current span.
use Rattle.std.specs.Prelude.{◌≡◌, ℕ, List, Some}
use Rattle.otel_ids.specs.SpanContext.{SpanContextRecord, IsValidSpanContext}
use Rattle.otel_base.specs.AnyValue.{text}
use Rattle.opentelemetry.specs.declared.logs.record.LogRecord.{Ghosts}

-- A record that the logger created has the message as its body. If the span context is valid, it
-- has its ids and flags too, and otherwise nothing more.
pub record IsStamped {R : Type 0} (MayCreate : R → Type 0) (log : Ghosts R)
    (span : SpanContextRecord) (message : List ℕ) (stamped : R) : Type 0 where
  pub created : R
  pub may_create : MayCreate created
  pub traced : IsValidSpanContext span
      → log.may_be_traced (log.after_body created (text message)) span.trace_id span.span_id
      (Some span.trace_flags) stamped
  pub untraced : (IsValidSpanContext span → ⊥) → stamped ≡ log.after_body created (text message)
