-- A line of a log that names the active span.
use Rattle.std.specs.Prelude.{ℕ, List, []}
use Rattle.otel_base.specs.declared.severity.Severity.TheVariants.{Warn}
use Rattle.otel_ids.specs.SpanContext.{SpanContextRecord}
use Rattle.opentelemetry.specs.declared.logs.record.LogRecord.{Ghosts}
use Rattle.otel_appender_log.specs.Bridge.{IsStamped, Setters, with_content}

-- the effects of the setters of a log record's content
abbrev pub setters_of : {R : Type 0} → Ghosts R → Setters R
setters_of log = record {
  number = log.after_severity_number;
  name = log.after_severity_text;
  body = log.after_body;
  target = log.after_target;
  attributes = log.after_attributes;
}

-- A warning that the logger created, with this message, this target and no attributes. If the span
-- is valid, the warning has its ids and flags.
pub record IsLine {R : Type 0} (MayCreate : R → Type 0) (log : Ghosts R)
    (message target : List ℕ) (span : SpanContextRecord) (line : R) : Type 0 where
  pub blank : R
  pub may_create : MayCreate blank
  pub is_stamped : IsStamped log.may_be_traced span
      (with_content (setters_of log) blank Warn message target []) line
