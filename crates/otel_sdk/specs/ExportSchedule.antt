-- When a service exports: once a batch has ended, or a delay has passed since the last export
-- (OpenTelemetry trace SDK, "Batching processor"). Not in the Rust crate, whose processor has a
-- thread.
use Rattle.std.specs.Prelude.{◌≡◌, ℕ, ◌+◌, ◌<◌, ◌≤◌, ◌&&◌, ◌||◌, ◌==◌, Bool, true, false, not}
use Rattle.std.specs.Prelude.{nat_le, Option, Result, Ok, Err, is_err, MatchBool, MatchOption}
use Rattle.std.specs.Prelude.{alloc_error, refl}
use Rattle.otel_sdk.specs.EnvLimits.{sizes_of}
use Rattle.otel_sdk.specs.LastExport.{TimeLeft, nanos_of, with_moment}
use Rattle.otel_sdk.specs.declared.env.limits.EnvBatches.{EnvBatches}
use Rattle.otel_sdk_base.specs.Queue.{effective}
use Rattle.otel_sdk_base.specs.declared.error.OTelSdkError.{OTelSdkError}
use Rattle.otel_sdk_base.specs.declared.error.OTelSdkError.TheVariants.{Memory}

-- the time until the delay is over, the delay in nanoseconds, the number of spans in a full batch,
-- and whether the last export failed
pub record ScheduleState : Type 0 where
  pub time : TimeLeft
  pub delay : ℕ
  pub batch_size : ℕ
  pub has_failed : Bool

-- a schedule that begins at this timestamp
abbrev pub at_start : ℕ → EnvBatches → ScheduleState
at_start now batches = record {
  time = record { last = now; left = nanos_of batches.schedule_delay_millis };
  delay = nanos_of batches.schedule_delay_millis;
  batch_size = (effective (sizes_of batches)).max_export_batch_size;
  has_failed = false;
}

-- The clock showed this timestamp. The delay is no longer if the clock was set back.
abbrev pub at_moment : ℕ → ScheduleState → ScheduleState
at_moment now s = record s { time = with_moment now s.time }

-- Whether so many queued spans are a full batch. After an export that failed only the delay counts.
abbrev pub has_full_batch : ℕ → ScheduleState → Bool
has_full_batch queued s = nat_le s.batch_size queued && not s.has_failed

-- whether there is something to export: queued spans, or what an export that failed may have left
abbrev pub has_something : ℕ → ScheduleState → Bool
has_something queued s = not (queued == 0) || s.has_failed

-- whether an export is due
abbrev pub is_due : ℕ → ScheduleState → Bool
is_due queued s = has_full_batch queued s || ((s.time.left == 0) && has_something queued s)

-- an export gave this answer, and the next delay begins
abbrev pub after_export : Result (Unit {0}) OTelSdkError → ScheduleState → ScheduleState
after_export answer s = record s {
  time = record { last = s.time.last; left = s.delay };
  has_failed = is_err answer;
}

-- Before the first timestamp that is this much later than the last one, no export is due, and from
-- then on one is: unless more spans end, or the clock is set back. If there is no such timestamp,
-- none is due at any.
abbrev pub IsTimeLeft : ℕ → ScheduleState → Option ℕ → Type 0
IsTimeLeft queued s left = MatchOption left
    ((now : ℕ) → is_due queued (at_moment now s) ≡ false)
    (λ nanos. ((now : ℕ) → s.time.last + nanos ≤ now → is_due queued (at_moment now s) ≡ true)
    × ((now : ℕ) → s.time.last ≤ now → now < s.time.last + nanos
    → is_due queued (at_moment now s) ≡ false))

-- The clock was read. If an export was due then, it was made, and gave the answer. Otherwise
-- nothing was exported, and the answer is `Ok`.
pub record ExportsIfDue {T : Type 0} (Flush : Result (Unit {0}) OTelSdkError → T → T → Type 0)
    (queued : T → ℕ) (reads : ℕ → Type 0) (answer : Result (Unit {0}) OTelSdkError)
    (before after : ScheduleState) (old new : T) : Type 0 where
  pub moment : ℕ
  pub shown : reads moment
  pub exported : MatchBool (is_due (queued old) (at_moment moment before))
      (Flush answer old new × (after ≡ after_export answer (at_moment moment before)))
      ((answer ≡ Ok tt) × (new ≡ old) × (after ≡ at_moment moment before))

-- ---- worked rows
abbrev batches : EnvBatches
batches = record {
  max_queue_size = 4;
  max_export_batch_size = 8;
  schedule_delay_millis = 5;
  export_timeout_millis = 30000;
}

-- A batch has 4 spans, since no more are queued, and the delay is over 5 ms later.
at_start_example : (is_due 3 (at_moment 5000006 (at_start 7 batches)) ≡ false)
    × (is_due 3 (at_moment 5000007 (at_start 7 batches)) ≡ true)
    × (is_due 0 (at_moment 5000007 (at_start 7 batches)) ≡ false)
    × (is_due 4 (at_moment 7 (at_start 7 batches)) ≡ true)
at_start_example = (refl, refl, refl, refl)

-- after an export that failed, another one is due 5 ms later
abbrev failed : ScheduleState
failed = after_export (Err (Memory alloc_error)) (at_moment 9000000 (at_start 7 batches))

failed_example : (is_due 4 (at_moment 13999999 failed) ≡ false)
    × (is_due 0 (at_moment 14000000 failed) ≡ true)
failed_example = (refl, refl)

-- A clock that is set back by 3 ms, 2 ms after the start: the delay is over 3 ms later.
abbrev set_back : ScheduleState
set_back = at_moment 2000007 (at_moment 5000007 (at_start 3000007 batches))

set_back_example : (is_due 3 (at_moment 5000006 set_back) ≡ false)
    × (is_due 3 (at_moment 5000007 set_back) ≡ true)
set_back_example = (refl, refl)
