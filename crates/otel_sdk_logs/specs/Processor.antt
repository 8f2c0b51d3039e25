-- The effects of calls of log processors.
use Rattle.std.specs.Prelude.{◌≡◌, ◌&&◌, ◌⊎◌, ◌+◌, ◌-◌, ◌^◌, ℕ, List, false, not, if◌then◌else◌}
use Rattle.std.specs.Prelude.{codes, min}
use Rattle.std.specs.Prelude.{Option, option_map, Result, Err, string_bytes}
use denote.Ref.{Bor}
use Rattle.otel_context.specs.Context.{ContextRecord, is_telemetry_suppressed, span_context}
use Rattle.otel_sdk_base.specs.Queue.{QueueState, counted, has_space, queued}
use Rattle.otel_sdk_base.specs.Resource.{Parts}
use Rattle.otel_sdk_base.specs.declared.error.OTelSdkError.{OTelSdkError}
use Rattle.otel_sdk_base.specs.declared.error.OTelSdkError.TheVariants.{InternalFailure, Memory}
use Rattle.otel_sdk_logs.specs.LogRecord.{IsEmitted, IsInSpan, LogEntry, LoggerParts, LogState}

-- after a record is emitted: it is queued last, or dropped and counted if the processor is closed
-- or the queue is full (OpenTelemetry logs SDK, "Batching processor")
abbrev pub after_emit : {E : Type 0} → LogEntry → QueueState LogEntry E → QueueState LogEntry E
after_emit given p = if not p.is_shut_down && has_space p then queued given p else counted p

-- What a processor says about its calls. Each relates its states before and after.
pub record LogCalls (P : Type 0) : Type 1 where
  -- it received this record
  pub emits : P → LogEntry → P → Type 0
  -- it answered this to a flush
  pub flushes : P → Result (Unit {0}) OTelSdkError → P → Type 0
  -- it answered this to a shutdown
  pub shuts_down : P → Result (Unit {0}) OTelSdkError → P → Type 0
  -- it was told the resource of later records
  pub takes_resource : P → Parts → P → Type 0

-- any answer to any call
abbrev pub any_log_calls : {P : Type 0} → LogCalls P
any_log_calls = record {
  emits = λ _ _ _. Unit {0};
  flushes = λ _ _ _. Unit {0};
  shuts_down = λ _ _ _. Unit {0};
  takes_resource = λ _ _ _. Unit {0};
}

-- The fate of an emitted record: it got its time and scope, and then the processor received it, or
-- it met a processor at work and was counted. Or it was counted because it couldn't get its scope.
abbrev pub IsHandedOver : (LogEntry → Type 0) → (LogEntry → Type 0) → Type 0 → Type 0 → Type 0
IsHandedOver is_data is_taken is_counted is_unmade =
    ((entry : LogEntry) × is_data entry × (is_taken entry ⊎ is_counted)) ⊎ is_unmade

-- Each record of the logger is handed over, unless the logger is disabled.
abbrev pub IsHandedIn : LoggerParts → LogState → (ℕ → Type 0) → (LogEntry → Type 0) → Type 0
    → Type 0 → Type 0
IsHandedIn logger log may_show is_taken is_counted is_unmade = logger.is_disabled ≡ false
    → IsHandedOver (IsEmitted may_show log logger.scope) is_taken is_counted is_unmade

-- Each record of the logger gets the active span of the context and is handed over, unless the
-- logger is disabled or telemetry is suppressed there.
abbrev pub IsHandedInFrom : ContextRecord → LoggerParts → LogState → (ℕ → Type 0)
    → (LogEntry → Type 0) → Type 0 → Type 0 → Type 0
IsHandedInFrom context logger log may_show is_taken is_counted is_unmade =
    is_telemetry_suppressed context ≡ false → logger.is_disabled ≡ false → IsHandedOver (λ entry.
    (made : LogState) × IsInSpan (span_context context) log made
    × IsEmitted may_show made logger.scope entry) is_taken is_counted is_unmade

-- the text of an event's name, if one is given
abbrev pub asked : Option (Bor (List ℕ)) → Option (List ℕ)
asked name = option_map (λ text. text.now) name

-- the error says that the processor is at work, or that memory ran out
abbrev pub SaysAtWork : OTelSdkError → Type 0
SaysAtWork (InternalFailure words) = string_bytes words ≡ codes "the processor is at work"
SaysAtWork (Memory error) = Unit {0}
SaysAtWork _ = ⊥

-- A provider's answer is the processor's own, or says that the processor is at work.
abbrev pub IsProcessorsAnswer : (Result (Unit {0}) OTelSdkError → Type 0) → Type 0
    → Result (Unit {0}) OTelSdkError → Type 0
IsProcessorsAnswer may_answer is_at_work answer = may_answer answer
    ⊎ (is_at_work × ((error : OTelSdkError) × SaysAtWork error × (answer ≡ Err error)))

-- The count is of the records that didn't reach the processor and of those that it dropped, up to
-- the greatest `u64`. While the processor is at work, it is only of the former.
abbrev pub CountsDropped : (ℕ → Type 0) → (ℕ → Type 0) → Type 0 → ℕ → Type 0
CountsDropped may_have_missed may_have_dropped is_at_work count = (missed : ℕ) × (dropped : ℕ)
    × may_have_missed missed × (may_have_dropped dropped ⊎ (is_at_work × (dropped ≡ 0)))
    × (count ≡ min (missed + dropped) (2 ^ 64 - 1))
