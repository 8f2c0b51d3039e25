-- The effect of the calls that run a body in a span.
use Rattle.std.specs.Prelude.{◌≡◌, ℕ, List, ◌++◌, codes, Option, IsSome, alloc_error}
use Rattle.otel_context.specs.declared.span.spans.SpanCause.TheVariants.{Memory}
use Rattle.otel_context.specs.declared.span.spans.SpanRefused.{SpanRefused}
use Rattle.otel_ids.specs.SpanContext.{SpanContextRecord}
use Rattle.otel_context.specs.Context.{ContextRecord, with_span}
use Rattle.otel_context.specs.Active.{AttachesAt}
use Rattle.otel_context.specs.Stack.{StackState, Detaches, current}
use Rattle.otel_context.specs.Spans.{SpansState, HasSameSpans, cause_text, get, insert, refusal}
use Rattle.opentelemetry.specs.declared.trace.in_span.Entered.{Entered}
use Rattle.opentelemetry.specs.declared.trace.in_span.StartError.{StartError}
use Rattle.opentelemetry.specs.declared.trace.in_span.StartError.TheVariants.{Build, Refused}

-- the possible effects of a call of a body: a relation between the stack, the table and the context
-- that it is given, its result, and the stack and the table that it leaves
abbrev pub MayLeave : Type 0 → Type 0 → Type 1
MayLeave S Out =
    StackState → SpansState S → ContextRecord → Out → StackState → SpansState S → Type 0

module _ {S : Type 0} where
  -- the printed text of the error: which step failed, and why
  abbrev pub error_text : StartError S → List ℕ
  error_text (Build error) = codes "span not built: no memory"
  error_text (Refused refused) = codes "span refused: " ++ cause_text refused.cause

  -- a body ran once in a span under the given parent, and its context was then detached [the Rust
  -- crate's `Tracer::in_span_with_builder_and_context`]
  pub record RanInSpan {Out : Type 0}
      (MayBuild : ContextRecord → S → Type 0) (context_of : S → SpanContextRecord)
      (may_leave : MayLeave S Out) (parent : ContextRecord)
      (old : StackState) (spans : SpansState S)
      (new : StackState) (new_spans : SpansState S) (answer : Out × ℕ) : Type 0 where
    -- the span is one that the tracer may start
    pub span : S
    pub built : MayBuild parent span
    -- the parent's context with the span was attached, or the greatest position was live and the
    -- stack didn't change
    pub position : ℕ
    pub lent : StackState
    pub context : ContextRecord
    pub of_parent : context ≡ with_span parent (context_of span) spans.next_number
    pub attached : AttachesAt position context old lent
    -- the body ran on that stack, on the table with the span, and on that context
    pub left : StackState
    pub ran : may_leave lent (insert spans span) context answer.0 left new_spans
    -- whatever was then attached at that position was removed, and the number is the span's
    pub removed : Option ContextRecord
    pub detached : Detaches position left new removed
    pub number : answer.1 ≡ spans.next_number

  -- the same with the stack's current context as the parent
  abbrev pub RanUnderCurrent : {Out : Type 0} → (ContextRecord → S → Type 0)
      → (S → SpanContextRecord) → MayLeave S Out → StackState → SpansState S
      → StackState → SpansState S → Out × ℕ → Type 0
  RanUnderCurrent MayBuild context_of may_leave old spans new new_spans answer =
      RanInSpan MayBuild context_of may_leave (current old.live) old spans new new_spans answer

  -- the table has a span of that number
  abbrev pub Holds : SpansState S → ℕ → Type 0
  Holds spans number = IsSome (get spans number)

  -- the error for a span that was taken from the table again, out of memory
  abbrev pub out_of_memory : S → StartError S
  out_of_memory span = Refused (record { span = span; cause = Memory alloc_error })

  -- the error for a span that the table refuses
  abbrev pub refused_by : SpansState S → S → StartError S
  refused_by spans span = Refused (refusal spans span)

  -- the span was inserted into the table, and the parent's context with that span attached
  pub record Enters (context_of : S → SpanContextRecord) (parent : ContextRecord) (span : S)
      (old : StackState) (spans : SpansState S)
      (new : StackState) (new_spans : SpansState S) (entered : Entered) : Type 0 where
    pub context : entered.context ≡ with_span parent (context_of span) spans.next_number
    pub number : entered.number ≡ spans.next_number
    pub attached : AttachesAt entered.position entered.context old new
    pub inserted : new_spans ≡ insert spans span

  -- the body ran once in the context that was entered, which was then detached
  pub record RunsAt {Out : Type 0} (may_leave : MayLeave S Out) (entered : Entered)
      (old : StackState) (spans : SpansState S)
      (new : StackState) (new_spans : SpansState S) (answer : Out × ℕ) : Type 0 where
    pub left : StackState
    pub ran : may_leave old spans entered.context answer.0 left new_spans
    pub removed : Option ContextRecord
    pub detached : Detaches entered.position left new removed
    pub number : answer.1 ≡ entered.number

  -- the error contains the span that was built, and the table has the same spans
  pub record IsRefused (MayBuild : S → Type 0) (old new : SpansState S) (refused : SpanRefused S)
      : Type 0 where
    pub span : S
    pub built : MayBuild span
    pub comes_back : refused ≡ refusal old span
    pub spans : HasSameSpans old new

  -- why the body wasn't run: no span was built and the table is unchanged, or the span that was
  -- built was refused
  abbrev pub NotStarted : (S → Type 0) → SpansState S → SpansState S → StartError S → Type 0
  NotStarted MayBuild old new (Build e) = new ≡ old
  NotStarted MayBuild old new (Refused refused) = IsRefused MayBuild old new refused

  -- the same with the stack's current context as the parent
  abbrev pub NotStartedOn : (ContextRecord → S → Type 0) → StackState → SpansState S
      → SpansState S → StartError S → Type 0
  NotStartedOn MayBuild stack old new error =
      NotStarted (MayBuild (current stack.live)) old new error
