-- The last export of a value that traces, which is tried again for some time. Not in the Rust
-- crate.
use Rattle.std.specs.Prelude.{◌≡◌, ◌≢◌, ◌⊎◌, ◌<◌, ◌≤◌, ◌-◌, ◌*◌, ℕ, zero, suc, Bool, List, Option}
use Rattle.std.specs.Prelude.{Result, Ok, Err, IfOk, IsOk, OnErr, None, false, option_map, refl}
use Rattle.std.specs.Prelude.{string_bytes}
use Rattle.std.specs.Result.{result_err}
use Rattle.otel_sdk.specs.declared.trace.tracing.last_export.Unfinished.{Unfinished}
use Rattle.otel_sdk_base.specs.Losses as losses
use Rattle.otel_sdk_base.specs.declared.error.OTelSdkError.{OTelSdkError}
use Rattle.otel_sdk_base.specs.declared.losses.Losses.{Losses}

-- the nanoseconds of these milliseconds
abbrev pub nanos_of : ℕ → ℕ
nanos_of millis = millis * 1000000

-- the nanoseconds between two tries
abbrev pub pause : ℕ
pause = 100000000

-- a clock that shows no later timestamp so often in a row has stopped
abbrev pub still : ℕ
still = 10000000

-- The error names the spans that are lost after the last shutdown, the error of that shutdown if it
-- failed, and the last message of a receiver, unless memory ran out.
pub record Tells (shutdown : Result ℕ OTelSdkError) (lost : Losses) (message : Option (List ℕ))
    (told : Unfinished) : Type 0 where
  pub numbers : told.losses ≡ lost
  pub failed : told.error ≡ result_err shutdown
  pub said : IfOk told.message (λ copy. option_map string_bytes copy ≡ message)

-- the outcome is `Ok` if and only if the last shutdown succeeded, and no span is lost
abbrev pub IsOutcome : Result ℕ OTelSdkError → Losses → Option (List ℕ)
    → Result (Unit {0}) Unfinished → Type 0
IsOutcome shutdown lost message (Ok _) = IsOk shutdown × (lost ≡ losses.none)
IsOutcome shutdown lost message (Err told) =
    Tells shutdown lost message told × (IsOk shutdown → lost ≢ losses.none)

-- ---- time

-- the timestamp that a clock showed last, and the nanoseconds that are left
pub record TimeLeft : Type 0 where
  pub last : ℕ
  pub left : ℕ

-- The clock showed this timestamp. The time is no longer if the clock was set back.
abbrev pub with_moment : ℕ → TimeLeft → TimeLeft
with_moment now time = record { last = now; left = time.left - (now - time.last) }

-- Only a reading of the clock shows that `reads` holds of a timestamp.
module _ (reads : ℕ → Type 0) where
  -- the clock was read, none or more times, each time while more than `due` was left
  pub data Waits (due : ℕ) : TimeLeft → TimeLeft → Type 0 where
    unread : (time : TimeLeft) → Waits due time time
    read_again : (old time : TimeLeft) (now : ℕ) → Waits due old time → due < time.left
        → reads now → Waits due old (with_moment now time)

  -- each of the last readings, of this number, showed no later timestamp than the one before it
  unfoldable pub StoodStill : ℕ → ℕ → Type 0
  StoodStill zero last = Unit {0}
  StoodStill (suc count) last =
      reads last × (before : ℕ) × (last ≤ before) × StoodStill count before

  -- some time was left, and the clock was read until the pause was over, or the time
  pub record HasWaited (old new : TimeLeft) : Type 0 where
    pub some : old.left ≢ 0
    pub read : Waits (old.left - pause) old new
    pub over : new.left ≤ old.left - pause

  -- no time is left, or the clock stopped before the pause was over
  abbrev pub HasGivenUp : TimeLeft → Type 0
  HasGivenUp time = (time.left ≡ 0)
      ⊎ ((stopped : TimeLeft) × Waits (time.left - pause) time stopped
      × StoodStill still stopped.last)

-- ---- tries

-- A shutdown relates the states before and after by `Shuts`, and `is_closed` says whether the
-- processors were shut down.
module _ {T : Type 0} (Shuts : Result ℕ OTelSdkError → T → T → Type 0) (is_closed : T → Bool)
    (reads : ℕ → Type 0) where
  -- Shutdowns were tried, none or more. Each failed, and left a processor open, and then the clock
  -- was read until the next one was due.
  pub data Tries : T → TimeLeft → T → TimeLeft → Type 0 where
    none : (t : T) (time : TimeLeft) → Tries t time t time
    again : (old before new : T) (start time next : TimeLeft) (error : OTelSdkError)
        → Tries old start before time → Shuts (Err error) before new → is_closed new ≡ false
        → HasWaited reads time next → Tries old start new next

  -- This is the answer of the last shutdown; each one before failed, and left a processor open. If
  -- this one did too, the time is over, or the clock stopped.
  pub record IsLast (start : TimeLeft) (answer : Result ℕ OTelSdkError) (old new : T) : Type 0 where
    pub before : T
    pub time : TimeLeft
    pub tries : Tries old start before time
    pub last : Shuts answer before new
    pub gave_up : OnErr answer (is_closed new ≡ false → HasGivenUp reads time)

  -- The clock was read, and then the shutdown was tried until one succeeded, or the last one
  -- failed (`finish`). Afterwards the spans are lost that `lost` counts, and `said` is the last
  -- message of a receiver.
  pub record Finishes (lost : T → Losses) (said : T → Option (List ℕ)) (millis : ℕ)
      (answer : Result (Unit {0}) Unfinished) (old new : T) : Type 0 where
    pub moment : ℕ
    pub shown : reads moment
    pub shutdown : Result ℕ OTelSdkError
    pub last : IsLast (record { last = moment; left = nanos_of millis }) shutdown old new
    pub outcome : IsOutcome shutdown (lost new) (said new) answer

-- ---- worked rows
abbrev three_dropped : Losses
three_dropped = record { rejected = 0; given_up = 0; dropped = 3; held = 0 }

dropped_example : Tells (Ok 0) three_dropped None
    (record { losses = three_dropped; error = None; message = Ok None })
dropped_example = record { numbers = refl; failed = refl; said = refl }

all_arrived_example : IsOutcome (Ok 2) losses.none None (Ok tt)
all_arrived_example = (refl, refl)

-- a clock that was set back by 5 doesn't make the time longer
set_back_example : with_moment 15 (record { last = 20; left = 7 })
    ≡ record { last = 15; left = 7 }
set_back_example = refl

time_over_example : with_moment 30 (record { last = 20; left = 7 })
    ≡ record { last = 30; left = 0 }
time_over_example = refl
