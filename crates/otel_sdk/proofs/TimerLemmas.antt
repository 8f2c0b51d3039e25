-- Readings of a clock while time is left, and tries between them.
use Rattle.std.proofs.Common.{◌≡◌, ℕ, suc, Bool, ◌+◌, ◌<◌, ◌≤◌, List, Option, ap, sym, subst, arith, Result, Ok, Err, IsErr, OnErr, false, true}
use Rattle.otel_sdk.specs.LastExport.{Finishes, HasGivenUp, HasWaited, IsLast, IsOutcome, StoodStill, TimeLeft, Tries, Waits, again, nanos_of, read_again, with_moment}
use Rattle.otel_sdk.specs.declared.trace.tracing.last_export.Unfinished.{Unfinished}
use Rattle.otel_sdk_base.specs.declared.error.OTelSdkError.{OTelSdkError}
use Rattle.otel_sdk_base.specs.declared.losses.Losses.{Losses}

pub no_reading : (reads : ℕ → Type 0) (last : ℕ) → StoodStill reads 0 last
unfolding StoodStill
no_reading reads last = tt

-- one more reading shows no later timestamp
pub stands_still : (reads : ℕ → Type 0) (count before last : ℕ) → reads last → last ≤ before → StoodStill reads count before → StoodStill reads (count + 1) last
unfolding StoodStill
stands_still reads count before last shown late stood =
    let next : suc count ≡ count + 1 = omega arith in
    subst (λ (k : ℕ). StoodStill reads k last) next (shown, before, late, stood)

pub one_reading : (reads : ℕ → Type 0) (due : ℕ) (start old new : TimeLeft) → Waits reads due start old → due < old.left → reads new.last
    → new ≡ with_moment new.last old → Waits reads due start new
one_reading reads due start old new waits more shown is = subst (Waits reads due start) (sym is) (read_again start old new.last waits more shown)

module _ {T : Type 0} (Shuts : Result ℕ OTelSdkError → T → T → Type 0) (is_closed : T → Bool) (reads : ℕ → Type 0) where
  -- shutdowns were tried, and this is the answer of the one after them
  pub record Tried (start time : TimeLeft) (answer : Result ℕ OTelSdkError) (old new : T) : Type 0 where
    pub before : T
    pub tries : Tries Shuts is_closed reads old start before time
    pub last : Shuts answer before new

  -- a last shutdown that failed and left a processor open is one of the tries, once the clock was read for long enough
  pub one_try_more : (start time next : TimeLeft) (answer : Result ℕ OTelSdkError) (old new : T) → IsErr answer
      → is_closed new ≡ false → HasWaited reads time next → Tried start time answer old new
      → Tries Shuts is_closed reads old start new next
  one_try_more start time next (Ok count) old new failed stays waited tried = let h : false ≡ true = failed in cc
  one_try_more start time next (Err error) old new failed stays waited tried =
      again old tried.before new start time next error tried.tries tried.last stays waited

  pub is_last : (start time : TimeLeft) (answer : Result ℕ OTelSdkError) (old new : T) → Tried start time answer old new
      → OnErr answer (is_closed new ≡ false → HasGivenUp reads time) → IsLast Shuts is_closed reads start answer old new
  is_last start time answer old new tried gave_up = record {
    before = tried.before;
    time = time;
    tries = tried.tries;
    last = tried.last;
    gave_up = gave_up;
  }

  -- the last shutdown of a timer with all of its time
  pub finishes : (lost : T → Losses) (said : T → Option (List ℕ)) (millis : ℕ) (start : TimeLeft)
      (shutdown : Result ℕ OTelSdkError) (answer : Result (Unit {0}) Unfinished) (old new : T)
      → reads start.last → start.left ≡ nanos_of millis
      → IsLast Shuts is_closed reads start shutdown old new → IsOutcome shutdown (lost new) (said new) answer
      → Finishes Shuts is_closed reads lost said millis answer old new
  finishes lost said millis start shutdown answer old new shown left last outcome = record {
    moment = start.last;
    shown = shown;
    shutdown = shutdown;
    last = subst (λ (time : TimeLeft). IsLast Shuts is_closed reads time shutdown old new)
        (ap (λ (n : ℕ). record { last = start.last; left = n }) left) last;
    outcome = outcome;
  }
