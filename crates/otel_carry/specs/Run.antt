-- The output of a whole run. Not in the Rust crate.
use Rattle.std.specs.Prelude.{◌≡◌, ◌≢◌, ◌↔◌, ℕ, Bool, List, ◌++◌, Option, IfSome, Result, OnOk}
use Rattle.std.specs.FinMap as fin
use Rattle.std.specs.HashMap.{HashMap}
use Rattle.std.specs.declared.string.String.{String}
use Rattle.otel_context.specs.Context.{ContextRecord, empty_context}
use Rattle.otel_context.specs.Stack.{current}
use Rattle.opentelemetry.specs.Carrier.{Pairs, TextMap, Sets, text_map}
use Rattle.opentelemetry.specs.Composite.{extracted_of, may_refuse_of, pairs_of}
use Rattle.opentelemetry.specs.Extraction.{Extracts}
use Rattle.opentelemetry.specs.declared.carry.RunReport.{RunReport}
use Rattle.opentelemetry.specs.declared.propagation.composite.TextMapCompositePropagator.{TextMapCompositePropagator}
use Rattle.opentelemetry.specs.declared.propagation.error.PropagationError.{PropagationError}
use Rattle.opentelemetry.specs.declared.carry.event.StackEvent.{StackEvent}
use Rattle.opentelemetry.specs.declared.carry.event.AttachOutcome.{AttachOutcome}
use Rattle.opentelemetry.specs.Run.{IsCurrent, Legal}
use Rattle.otel_carry.specs.Failures.{status_of}
use Rattle.otel_carry.specs.Outcome.{IsFailureOf, IsFaultyInput, IsGoodInput}
use Rattle.otel_carry.specs.Report.{AreTextLines, Writes, outcome_lines, current_line}
use Rattle.otel_carry.specs.Report.{extracted_line, failure_line}
use Rattle.otel_carry.specs.declared.failure.Failure.{Failure}

-- A run of the events that the lines of the input request: its attaches had these outcomes, this
-- context was current after it, and the pairs of this context were set in a carrier.
pub record IsRunOf (pairs : ContextRecord → Pairs) (input : List ℕ) (old new : TextMap)
    (outcomes : List AttachOutcome) (context : ContextRecord) : Type 0 where
  pub events : List StackEvent
  pub good : IsGoodInput input events
  pub legal : Legal events outcomes
  pub current : IsCurrent events outcomes context
  pub sets : Sets old (pairs context) new

-- if the report of a run says that its injection succeeded, and the input is known, it is a run of
-- the input, which filled the map
abbrev pub IsRunReport : {A S I : Type 0} {D : I → Type 0} → TextMapCompositePropagator I D
    → ((x : I) × D x → ContextRecord → Pairs) → Option (List ℕ)
    → HashMap (String A) (String A) S → HashMap (String A) (String A) S → RunReport → Type 0
IsRunReport composite pairs input old new report =
    OnOk report.injected (IfSome input (λ bytes.
    IsRunOf (pairs_of (λ m. pairs (m.vtable, m.value)) composite) bytes
    (text_map old.entries) (text_map new.entries) report.outcomes.items
    (current report.stack.live)))

-- The text has the lines of the outcomes, of the current context, of the carrier's texts, and of
-- the context extracted from them.
pub record IsRunText (extracted : ContextRecord → TextMap → ContextRecord)
    (outcomes : List AttachOutcome) (context : ContextRecord) (texts : TextMap)
    (text : List ℕ) : Type 0 where
  pub lines : List ℕ
  pub of_texts : AreTextLines texts lines
  pub text_is : text ≡ outcome_lines outcomes ++ current_line context ++ lines
      ++ extracted_line (extracted empty_context texts)

-- after the status 0 the text of the report and of the map is written, and nothing else
abbrev pub WritesRun : {A S I : Type 0} {D : I → Type 0} → TextMapCompositePropagator I D
    → ((x : I) × D x → ContextRecord → TextMap → ContextRecord) → RunReport
    → HashMap (String A) (String A) S → Option (List ℕ) → Option (List ℕ) → ℕ → Type 0
WritesRun composite extracted report texts old new status =
    status ≡ 0 → Writes (IsRunText (extracted_of (λ m. extracted (m.vtable, m.value)) composite)
    report.outcomes.items (current report.stack.live) (text_map texts.entries)) old new

-- the composite extracted from the map into the context, with this result
abbrev pub ExtractsFromMap : {A S I : Type 0} {D : I → Type 0} → TextMapCompositePropagator I D
    → ((x : I) × D x → ContextRecord → TextMap → ContextRecord) → ((x : I) × D x → Bool)
    → ContextRecord → HashMap (String A) (String A) S
    → Result ContextRecord PropagationError → Type 0
ExtractsFromMap composite extracted may_refuse context texts result =
    Extracts (extracted_of (λ m. extracted (m.vtable, m.value)) composite context
    (text_map texts.entries))
    (may_refuse_of (λ m. may_refuse (m.vtable, m.value)) composite) result

-- the text is the output for a run of the input, which fills an empty carrier
pub record IsReport (pairs : ContextRecord → Pairs)
    (extracted : ContextRecord → TextMap → ContextRecord) (input text : List ℕ) : Type 0 where
  pub outcomes : List AttachOutcome
  pub context : ContextRecord
  pub texts : TextMap
  pub run : IsRunOf pairs input fin.empty texts outcomes context
  pub written : IsRunText extracted outcomes context texts text

-- the text is the line of a failure that is possible for this input and has this exit status
pub record IsFailureReport (status : ℕ) (input text : List ℕ) : Type 0 where
  pub failure : Failure
  pub is : IsFailureOf input failure
  pub status_is : status_of failure ≡ status
  pub text_is : text ≡ failure_line failure

-- the meaning of the program's exit status for its input and its output
pub record Ends (pairs : ContextRecord → Pairs)
    (extracted : ContextRecord → TextMap → ContextRecord) (input : List ℕ) (status : ℕ)
    (old new : Option (List ℕ)) : Type 0 where
  -- if it isn't 1, it is 2 if and only if the input is faulty
  pub faulty : status ≢ 1 → (status ≡ 2) ↔ IsFaultyInput input
  -- after 2 the line of the first fault is written, and nothing else
  pub fault : status ≡ 2 → Writes (IsFailureReport 2 input) old new
  -- if it is 1 although the input is faulty, the line that says that the input can't be read, or
  -- that the program is out of memory, is written, and nothing else
  pub unread : status ≡ 1 → IsFaultyInput input → Writes (IsFailureReport 1 input) old new
  -- after 0 the whole report of the run is written, and nothing else
  pub report : status ≡ 0 → Writes (IsReport pairs extracted input) old new

-- the program ended with this exit status and this output, if the input is known
abbrev pub EndsBy : {I : Type 0} {D : I → Type 0} → TextMapCompositePropagator I D
    → ((x : I) × D x → ContextRecord → Pairs)
    → ((x : I) × D x → ContextRecord → TextMap → ContextRecord)
    → Option (List ℕ) → Option (List ℕ) → Option (List ℕ) → ℕ → Type 0
EndsBy composite pairs extracted input old new status =
    IfSome input (λ bytes.
    Ends (pairs_of (λ m. pairs (m.vtable, m.value)) composite)
    (extracted_of (λ m. extracted (m.vtable, m.value)) composite) bytes status old new)

-- The output was cut off, for example by a write that failed: neither the whole report of a run of
-- the input nor the line of its first fault is written.
pub record IsCutOff (pairs : ContextRecord → Pairs)
    (extracted : ContextRecord → TextMap → ContextRecord) (input : List ℕ)
    (old new : Option (List ℕ)) : Type 0 where
  pub no_report : ¬ Writes (IsReport pairs extracted input) old new
  pub no_fault : ¬ Writes (IsFailureReport 2 input) old new

-- if the output was cut off and the input is known, the exit status is 1
abbrev pub FailsIfCutOff : {I : Type 0} {D : I → Type 0} → TextMapCompositePropagator I D
    → ((x : I) × D x → ContextRecord → Pairs)
    → ((x : I) × D x → ContextRecord → TextMap → ContextRecord)
    → Option (List ℕ) → Option (List ℕ) → Option (List ℕ) → ℕ → Type 0
FailsIfCutOff composite pairs extracted input old new status =
    IfSome input (λ bytes.
    IsCutOff (pairs_of (λ m. pairs (m.vtable, m.value)) composite)
    (extracted_of (λ m. extracted (m.vtable, m.value)) composite) bytes old new → status ≡ 1)
