-- The meaning of the program's exit status for its input and its output.
use Rattle.std.proofs.Common.{◌≡◌, ◌≢◌, ℕ, zero, suc, ◌≤◌, List, Option, Some, None, Result, Ok, Err, inl, inr, refl, sym, ◌∙◌, arith, subst, IfSome, IfOk, OnOk, IsOk}
use Rattle.std.proofs.KnownBytes.{Appends-kept}
use Rattle.std.specs.Io.KnownBytes.{Appends, Keeps}
use Rattle.std.specs.FinMap as fin
use Rattle.otel_context.specs.Context.{ContextRecord}
use Rattle.opentelemetry.specs.Carrier.{Pairs, TextMap}
use Rattle.opentelemetry.specs.declared.carry.event.StackEvent.{StackEvent}
use Rattle.opentelemetry.specs.declared.carry.event.AttachOutcome.{AttachOutcome}
use Rattle.otel_carry.specs.declared.failure.Failure.{Failure}
use Rattle.otel_carry.specs.declared.failure.Failure.TheVariants.{Unreadable, NotUtf8, Line, NoMemory}
use Rattle.otel_carry.specs.Events.{lines_of}
use Rattle.otel_carry.specs.Failures.{status_of}
use Rattle.otel_carry.specs.Outcome.{IsFailureOf, IsFaultyInput, IsGood, IsGoodInput}
use Rattle.otel_carry.specs.Report.{Writes, failure_line}
use Rattle.otel_carry.specs.Run.{Ends, IsCutOff, IsFailureReport, IsReport, IsRunOf, IsRunText}
use Rattle.otel_carry.proofs.GrammarLemmas.{never_both}

-- a good input isn't faulty
good_or_faulty : (input : List ℕ) (events : List StackEvent) → IsGoodInput input events → IsFaultyInput input → ⊥
good_or_faulty input events good (inl h) = h good.0
good_or_faulty input events good (inr h) = never_both (lines_of input) events h.0 h.1 good.1 h.2

-- a failure with the status 2 is a fault of the input
faulty_by : (input : List ℕ) (failure : Failure) → status_of failure ≡ 2 → IsFailureOf input failure → IsFaultyInput input
faulty_by input Unreadable e h = absurd (let one : 1 ≡ 2 = e in omega (arith, one))
faulty_by input NotUtf8 e h = inl h
faulty_by input (Line number fault) e h = inr (number, fault, h)
faulty_by input NoMemory e h = absurd (let one : 1 ≡ 2 = e in omega (arith, one))

-- the status of a failure is 1 or 2
status_cases : (failure : Failure) → status_of failure ≢ 1 → status_of failure ≡ 2
status_cases Unreadable h = absurd (h refl)
status_cases NotUtf8 h = refl
status_cases (Line number fault) h = refl
status_cases NoMemory h = absurd (h refl)

failed_not_0 : (failure : Failure) → status_of failure ≡ 0 → ⊥
failed_not_0 Unreadable h = absurd (let one : 1 ≡ 0 = h in omega (arith, one))
failed_not_0 NotUtf8 h = absurd (let two : 2 ≡ 0 = h in omega (arith, two))
failed_not_0 (Line number fault) h = absurd (let two : 2 ≡ 0 = h in omega (arith, two))
failed_not_0 NoMemory h = absurd (let one : 1 ≡ 0 = h in omega (arith, one))

-- a status that is neither 0 nor 2 is 1
is_1 : (status : ℕ) → status ≤ 2 → status ≢ 0 → status ≢ 2 → status ≡ 1
is_1 zero most not_0 not_2 = absurd (not_0 refl)
is_1 (suc zero) most not_0 not_2 = refl
is_1 (suc (suc zero)) most not_0 not_2 = absurd (not_2 refl)
is_1 (suc (suc (suc n))) most not_0 not_2 = absurd (omega (arith, most))

at_ok : {T F P : Type 0} (r : Result T F) → IsOk r → OnOk r P → P
at_ok (Ok x) h p = p
at_ok (Err e) h p = absurd (cc)

-- a text that was written stays
writes_kept : (P : List ℕ → Type 0) (old mid new : Option (List ℕ)) → Keeps mid new → Writes P old mid → Writes P old new
writes_kept P old mid new kept w = record { text = w.text; is = w.is; appended = Appends-kept old mid new w.text w.appended kept }

module _ (pairs : ContextRecord → Pairs) (extracted : ContextRecord → TextMap → ContextRecord) where
  -- a flush keeps the written text
  pub ends_kept : (known old mid new : Option (List ℕ)) (status : ℕ) → Keeps mid new
      → IfSome known (λ input. Ends pairs extracted input status old mid) → IfSome known (λ input. Ends pairs extracted input status old new)
  ends_kept None old mid new status kept h = tt
  ends_kept (Some input) old mid new status kept h = record {
    faulty = h.faulty;
    fault = λ two. writes_kept (IsFailureReport 2 input) old mid new kept (h.fault two);
    unread = λ one faulty. writes_kept (IsFailureReport 1 input) old mid new kept (h.unread one faulty);
    report = λ zero. writes_kept (IsReport pairs extracted input) old mid new kept (h.report zero);
  }

  -- a failure ends a run
  pub ends_by_failure : {E : Type 0} (known old new : Option (List ℕ)) (failure : Failure) (r : Result ℕ E)
      → IfSome known (λ input. IsFailureOf input failure) → IfOk r (λ status. status ≡ status_of failure)
      → OnOk r (Appends old new (failure_line failure)) → IfOk r (λ status. IfSome known (λ input. Ends pairs extracted input status old new))
  ends_by_failure known old new failure (Err e) is said line = tt
  ends_by_failure None old new failure (Ok status) is said line = tt
  ends_by_failure (Some input) old new failure (Ok status) is said line =
      let told : (n : ℕ) → status ≡ n → Writes (IsFailureReport n input) old new =
      λ n e. record {
        text = failure_line failure;
        is = record { failure = failure; is = is; status_is = sym said ∙ e; text_is = refl };
        appended = line;
      } in
      record {
        faulty = λ other. (λ two. faulty_by input failure (sym said ∙ two) is, λ h. said ∙ status_cases failure (λ one. other (said ∙ one)));
        fault = told 2;
        unread = λ one faulty. told 1 one;
        report = λ zero. absurd (failed_not_0 failure (sym said ∙ zero));
      }

  -- a run ends
  pub ends_by_run : {E F T : Type 0} (known old new : Option (List ℕ)) (injected : Result T F) (before after : TextMap) (outcomes : List AttachOutcome) (context : ContextRecord) (r : Result ℕ E)
      → before ≡ fin.empty → IfSome known IsGood → OnOk injected (IfSome known (λ input. IsRunOf pairs input before after outcomes context))
      → IfOk r (λ status. status ≤ 1) → IfOk r (λ status. status ≡ 0 → IsOk injected)
      → IfOk r (λ status. status ≡ 0 → Writes (IsRunText extracted outcomes context after) old new)
      → IfOk r (λ status. IfSome known (λ input. Ends pairs extracted input status old new))
  ends_by_run known old new injected before after outcomes context (Err e) empty good ran most ok written = tt
  ends_by_run None old new injected before after outcomes context (Ok status) empty good ran most ok written = tt
  ends_by_run (Some input) old new injected before after outcomes context (Ok status) empty good ran most ok written = record {
    faulty = λ other. (λ two. absurd (omega (arith, two, most)), λ h. absurd (good_or_faulty input good.0 good.1 h));
    fault = λ two. absurd (omega (arith, two, most));
    unread = λ one h. absurd (good_or_faulty input good.0 good.1 h);
    report = λ zero.
        let w = written zero in
        record {
          text = w.text;
          is = record {
            outcomes = outcomes;
            context = context;
            texts = after;
            run = subst (λ m. IsRunOf pairs input m after outcomes context) empty (at_ok injected (ok zero) ran);
            written = w.is;
          };
          appended = w.appended;
        };
  }

  -- if the output is cut off, the status is neither 0 nor 2
  pub cut_off_is_1 : (known old new : Option (List ℕ)) (status : ℕ) → status ≤ 2
      → IfSome known (λ input. Ends pairs extracted input status old new)
      → IfSome known (λ input. IsCutOff pairs extracted input old new → status ≡ 1)
  cut_off_is_1 None old new status most ends = tt
  cut_off_is_1 (Some input) old new status most ends = λ cut.
      is_1 status most (λ zero. cut.no_report (ends.report zero)) (λ two. cut.no_fault (ends.fault two))
