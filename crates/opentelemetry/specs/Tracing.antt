-- What a value that traces holds, and the effects of its calls. Not in the Rust crate, where the
-- stack of a thread holds the contexts, and a context its span.
use Rattle.std.specs.Prelude.{◌≡◌, ◌≢◌, ◌⊎◌, ℕ, ◌+◌, ◌-◌, ◌^◌, ◌<◌, ◌==◌, ◌&&◌, Bool, true}
use Rattle.std.specs.Prelude.{false, not, List, [], ◌∷◌, filter, min, codes, reverse, slice_get}
use Rattle.std.specs.Prelude.{Option, Some, None, Result, IfOk, IfErr, IfSome, IsErr, IsErrOf}
use Rattle.std.specs.Prelude.{IsOk, IsTrue, OnErr, OnOk, MatchBool, MatchOption, if◌then◌else◌}
use Rattle.std.specs.Fn.{FnOnceReturnsAtMut}
use Rattle.std.specs.Fn.{Once}
use Rattle.std.specs.Borrow.{MutBor}
use Rattle.std.specs.List.{filter_map, list_any}
use Rattle.std.specs.Option.{option_and_then, option_map_or, unwrap_or}
use Rattle.otel_base.specs.KeyValue.{Attribute}
use Rattle.otel_ids.specs.SpanContext.{SpanContextRecord}
use Rattle.otel_context.specs.Context.{ContextRecord, span_context, span_number, with_span}
use Rattle.otel_context.specs.SpanCalls.{after_effect}
use Rattle.otel_context.specs.SpanEffects.{message}
use Rattle.otel_context.specs.Spans as table
use Rattle.otel_context.specs.Spans.{HasSameSpans, SpansState}
use Rattle.otel_context.specs.Stack as stack
use Rattle.otel_context.specs.Stack.{Live}
use Rattle.otel_context.specs.declared.span.spans.SpanCause.{SpanCause}
use Rattle.otel_context.specs.declared.span.spans.SpanCause.TheVariants as cause_of
use Rattle.otel_context.specs.declared.span.status.Status.{Status}
use Rattle.otel_context.specs.declared.span.status.Status.TheVariants.{Error}
use Rattle.opentelemetry.specs.SpanBuilder.{BuilderRecord}
use Rattle.opentelemetry.specs.SpanSource.{SourceCalls}
use Rattle.opentelemetry.specs.declared.trace.tracing.Attached.{Attached}
use Rattle.opentelemetry.specs.declared.trace.tracing.Entered.{Entered}
use Rattle.opentelemetry.specs.declared.trace.tracing.NotEntered.{NotEntered}
use Rattle.opentelemetry.specs.declared.trace.tracing.NotEntered.TheVariants.{NumbersUsedUp}
use Rattle.opentelemetry.specs.declared.trace.tracing.NotEntered.TheVariants.{PositionsUsedUp}
use Rattle.opentelemetry.specs.declared.trace.tracing.NotEntered.TheVariants.{Memory}
use Rattle.opentelemetry.specs.declared.trace.tracing.open_spans.OpenSpan.{OpenSpan}

-- what starts the spans and takes those that end, the contexts that are attached, the open spans
-- under their numbers, the same with their places (the newest first), and how often a span couldn't
-- be entered or an error couldn't be recorded
pub record TracingState (B S : Type 0) : Type 0 where
  pub source : B
  pub contexts : Live
  pub spans : SpansState S
  pub places : List OpenSpan
  pub unrecorded : ℕ

-- why no span was entered, if the table of spans refused it
abbrev pub not_entered : SpanCause → NotEntered
not_entered cause_of.NumbersUsedUp = NumbersUsedUp
not_entered (cause_of.Memory error) = Memory error

-- returned in place of a span by a source that starts none: no span has this number
abbrev pub no_entered : Entered
no_entered = record { number = table.used_up }

-- one more, up to the greatest `u64`
abbrev pub one_more : ℕ → ℕ
one_more count = min (count + 1) (2 ^ 64 - 1)

-- the builder, whose span starts at the timestamp unless the builder has a start time
abbrev pub starting_at : ℕ → BuilderRecord → BuilderRecord
starting_at now builder = record builder { start_time = Some (unwrap_or builder.start_time now) }

-- ---- open spans

-- whether the span with the number is one of these
abbrev pub is_open : ℕ → List OpenSpan → Bool
is_open number places = list_any (λ e. e.number == number) places

-- Whether the span `number` is the span `outer`, or was entered inside it: its chain of spans, each
-- entered inside the next, leads there. A span that was started by itself is inside no other.
abbrev pub is_inside : ℕ → List OpenSpan → ℕ → Bool
is_inside outer [] number = false
is_inside outer (e ∷ older) number =
    if e.number == number
    then (if number == outer then true else option_map_or (is_inside outer older) e.within false)
    else is_inside outer older number

-- whether the span at the index, the oldest first, is inside the span `outer`
abbrev pub is_inside_at : ℕ → ℕ → List OpenSpan → Bool
is_inside_at outer index places = option_map_or (λ e. is_inside outer places e.number)
    (slice_get (reverse places) index) false

-- the open spans that end with `outer`, the newest first: itself, and the ones inside it
abbrev pub ending : ℕ → List OpenSpan → List OpenSpan
ending outer [] = []
ending outer (e ∷ older) =
    if is_inside outer (e ∷ older) e.number then e ∷ ending outer older else ending outer older

-- the other spans
abbrev pub without : ℕ → List OpenSpan → List OpenSpan
without number places = filter (λ e. not (e.number == number)) places

-- the contexts, without the one at the span's position if it was entered
abbrev pub detached_of : Option ℕ → Live → Live
detached_of None contexts = contexts
detached_of (Some position) contexts = stack.detach position contexts

-- the numbers of the open spans fall, from below the bound
abbrev pub FallBelow : ℕ → List OpenSpan → Type 0
FallBelow bound [] = Unit {0}
FallBelow bound (e ∷ older) = (e.number < bound) × FallBelow e.number older

-- two span contexts have the same ids
abbrev pub has_ids : SpanContextRecord → SpanContextRecord → Bool
has_ids a b = (a.trace_id == b.trace_id) && (a.span_id == b.span_id)

module _ {S : Type 0} where
  -- the open spans, as they are in the table
  abbrev pub open_of : SpansState S → List OpenSpan → List S
  open_of spans places = filter_map (λ e. table.get spans e.number) places

  -- each open span is in the table
  abbrev pub AreHeld : SpansState S → List OpenSpan → Type 0
  AreHeld spans [] = Unit {0}
  AreHeld spans (e ∷ older) =
      ((span : S) × (table.get spans e.number ≡ Some span)) × AreHeld spans older

  -- the number of the context's span if that is an open one. A context of another value that traces
  -- may have the number of a span here, but has other ids.
  abbrev pub number_of : (S → SpanContextRecord) → SpansState S → ContextRecord → Option ℕ
  number_of context_of spans context = option_and_then
      (λ number. if option_map_or (λ span. has_ids (context_of span) (span_context context))
      (table.get spans number) false then Some number else None)
      (span_number context)

  -- the number, if its span records
  abbrev pub recording : (S → Bool) → SpansState S → Option ℕ → Option ℕ
  recording records spans number = option_and_then
      (λ n. if option_map_or records (table.get spans n) false then Some n else None) number

  -- the span, with an event `exception` at the timestamp that has the string
  abbrev pub with_exception : (S → List ℕ → ℕ → List Attribute → S) → List ℕ → ℕ → S → S
  with_exception after_event text now span = after_event span (codes "exception") now (message text)

  -- the span, with that event and the status `Error` with the string
  abbrev pub with_failure : (S → List ℕ → ℕ → List Attribute → S) → (S → Status → S) → List ℕ → ℕ
      → S → S
  with_failure after_event after_status text now span =
      after_status (with_exception after_event text now span) (Error text)

module _ {B S : Type 0} where
  -- the current context (`Tracing::context`)
  abbrev pub current : TracingState B S → ContextRecord
  current t = stack.current t.contexts

  -- nothing is attached and no span is open
  abbrev pub at_start : B → TracingState B S
  at_start source = record {
    source = source;
    contexts = [];
    spans = table.starting_at 0;
    places = [];
    unrecorded = 0;
  }

  -- one more span couldn't be entered, or one more error couldn't be recorded
  abbrev pub with_unrecorded : TracingState B S → TracingState B S
  with_unrecorded t = record t { unrecorded = one_more t.unrecorded }

  -- the context at the position was detached (`Tracing::detach`)
  abbrev pub detached : ℕ → TracingState B S → TracingState B S
  detached position t = record t { contexts = stack.detach position t.contexts }

  -- The context was attached at the position above the newest. If the greatest position is live,
  -- nothing changed, and nothing is at the position (`Tracing::attach`).
  pub record AttachesContext (context : ContextRecord) (old new : TracingState B S)
      (made : Attached) : Type 0 where
    pub attached : stack.newest_position old.contexts < stack.last_position
        → (made.position ≡ stack.newest_position old.contexts + 1)
        × (new ≡ record old { contexts = stack.attach context old.contexts })
    pub full : stack.newest_position old.contexts ≡ stack.last_position
        → (made.position ≡ stack.no_position) × (new ≡ old)

  -- the number of the current span, if that is an open one and records
  abbrev pub current_recording : (S → SpanContextRecord) → (S → Bool) → TracingState B S → Option ℕ
  current_recording context_of records t =
      recording records t.spans (number_of context_of t.spans (current t))

  -- the span with the number was changed, if there is a number
  abbrev pub with_changed : (S → S) → Option ℕ → TracingState B S → TracingState B S
  with_changed change number t = record t { spans = after_effect change t.spans number }

  module _ (calls : SourceCalls B S) where
    -- the effect of a call on spans: nothing changes if the source starts none
    abbrev pub UnlessDisabled : TracingState B S → TracingState B S → Type 0 → Type 0
    UnlessDisabled old new effect = MatchBool (calls.is_disabled old.source) (new ≡ old) effect

    module _ (context_of : S → SpanContextRecord) where
      -- ---- starts

      -- One of the spans that the source may build from the builder, at a timestamp of its clock
      -- and under the parent, starts. The source was told, and the span has the next number.
      pub record StartsSpan (builder : BuilderRecord) (parent : ContextRecord)
          (old new : TracingState B S) (context : ContextRecord) : Type 0 where
        pub timestamp : ℕ
        pub shown : calls.may_show old.source timestamp
        pub built : S
        pub may_build : calls.may_build old.source (starting_at timestamp builder) parent built
        pub span : S
        pub begins : calls.begins old.source parent built new.source span
        pub is_active : context ≡ with_span parent (context_of built) old.spans.next_number
        pub spans : new.spans ≡ table.insert old.spans span
        pub unrecorded : new.unrecorded ≡ old.unrecorded

      -- The span starts under the current context, inside the current span if that is an open one,
      -- and its context is attached.
      pub record EntersSpan (builder : BuilderRecord) (old new : TracingState B S)
          (entered : Entered) : Type 0 where
        pub context : ContextRecord
        pub starts : StartsSpan builder (current old) old new context
        pub is_next : entered.number ≡ old.spans.next_number
        pub contexts : new.contexts ≡ stack.attach context old.contexts
        pub places : new.places ≡ record {
          number = old.spans.next_number;
          within = number_of context_of old.spans (current old);
          position = Some (stack.newest_position old.contexts + 1);
        } ∷ old.places

      -- A span was entered, or the source starts none (`Tracing::enter_with`).
      pub record Enters (builder : BuilderRecord) (old new : TracingState B S)
          (entered : Entered) : Type 0 where
        pub span : UnlessDisabled old new (EntersSpan builder old new entered)
        pub disabled : IsTrue (calls.is_disabled old.source) → entered ≡ no_entered

      -- The span starts under the parent, and nothing is attached: it is open, inside no other.
      pub record StartsAlone (builder : BuilderRecord) (parent : ContextRecord)
          (old new : TracingState B S) (context : ContextRecord) : Type 0 where
        pub starts : StartsSpan builder parent old new context
        pub contexts : new.contexts ≡ old.contexts
        pub places : new.places ≡ record {
          number = old.spans.next_number;
          within = None;
          position = None;
        } ∷ old.places

      -- A span was started, or the source starts none, and the context is the parent
      -- (`Tracing::start_under`).
      pub record Starts (builder : BuilderRecord) (parent : ContextRecord)
          (old new : TracingState B S) (context : ContextRecord) : Type 0 where
        pub span : UnlessDisabled old new (StartsAlone builder parent old new context)
        pub disabled : IsTrue (calls.is_disabled old.source) → context ≡ parent

    -- No span was entered or started. At most one more number was used.
    pub record StartsNone (old new : TracingState B S) : Type 0 where
      pub same : new ≡ record old { spans = new.spans }
      pub spans : HasSameSpans old.spans new.spans

    -- Why no span was started: the error says whether the numbers or the positions are used up.
    pub record Refuses {X : Type 0} (answer : Result X NotEntered) (old new : TracingState B S)
        : Type 0 where
      pub none : OnErr answer (StartsNone old new)
      pub numbers : IfErr answer (λ error. error ≡ NumbersUsedUp
          → old.spans.next_number ≡ table.used_up)
      pub positions : IfErr answer (λ error. error ≡ PositionsUsedUp
          → stack.newest_position old.contexts ≡ stack.last_position)

    -- A span was entered, or the error says why none was. While a position and a number are left,
    -- only memory is a reason (`Tracing::enter_with`).
    pub record TriesToEnter (context_of : S → SpanContextRecord) (builder : BuilderRecord)
        (answer : Result Entered NotEntered) (old new : TracingState B S) : Type 0 where
      pub entered : IfOk answer (Enters context_of builder old new)
      pub refused : Refuses answer old new
      pub full : calls.is_disabled old.source ≡ false
          → stack.newest_position old.contexts ≡ stack.last_position
          → IsErrOf answer PositionsUsedUp
      pub used_up : calls.is_disabled old.source ≡ false
          → stack.newest_position old.contexts ≢ stack.last_position
          → old.spans.next_number ≡ table.used_up → IsErrOf answer NumbersUsedUp

    -- A span was started under the parent, or the error says why none was
    -- (`Tracing::start_under`).
    pub record TriesToStart (context_of : S → SpanContextRecord) (builder : BuilderRecord)
        (parent : ContextRecord) (answer : Result ContextRecord NotEntered)
        (old new : TracingState B S) : Type 0 where
      pub started : IfOk answer (Starts context_of builder parent old new)
      pub none : OnErr answer (StartsNone old new)
      pub numbers : IfErr answer (λ error. error ≡ NumbersUsedUp
          → old.spans.next_number ≡ table.used_up)
      pub positions : IfErr answer (λ error. error ≢ PositionsUsedUp)
      pub used_up : calls.is_disabled old.source ≡ false
          → old.spans.next_number ≡ table.used_up → IsErr answer

    -- ---- ends

    module _ (after_end : S → ℕ → S) where
      -- The open span ended at the timestamp and was detached, and the source took it.
      pub record EndsOne (timestamp : ℕ) (e : OpenSpan) (old new : TracingState B S)
          : Type 0 where
        pub span : S
        pub found : table.get old.spans e.number ≡ Some span
        pub taken : calls.takes old.source (after_end span timestamp) new.source
        pub same : new ≡ record old {
          source = new.source;
          contexts = detached_of e.position old.contexts;
          spans = table.take old.spans e.number;
          places = without e.number old.places;
        }

      -- these open spans ended at the timestamp, in order
      abbrev pub EndsEach : ℕ → List OpenSpan → TracingState B S → TracingState B S → Type 0
      EndsEach timestamp [] old new = new ≡ old
      EndsEach timestamp (e ∷ rest) old new = (between : TracingState B S)
          × EndsOne timestamp e old between × EndsEach timestamp rest between new

      -- the newest of these open spans ended at the timestamp
      abbrev pub EndsNewest : ℕ → List OpenSpan → TracingState B S → TracingState B S → Type 0
      EndsNewest timestamp [] old new = ⊥
      EndsNewest timestamp (e ∷ older) old new = EndsOne timestamp e old new

      -- these open spans ended, in order, at one timestamp of the clock
      pub record EndsTogether (ends : List OpenSpan) (old new : TracingState B S) : Type 0 where
        pub timestamp : ℕ
        pub shown : calls.may_show old.source timestamp
        pub each : EndsEach timestamp ends old new

      -- The span with the number ended, and before it each one that was entered inside it and not
      -- exited, the newest first. No other span ended. Nothing changed if it isn't open
      -- (`Tracing::exit`).
      abbrev pub Exits : ℕ → TracingState B S → TracingState B S → Type 0
      Exits number old new = MatchBool (is_open number old.places)
          (EndsTogether (ending number old.places) old new) (new ≡ old)

      -- the context's span ended so, if it is an open one (`Tracing::end`)
      abbrev pub Ends : (S → SpanContextRecord) → ContextRecord
          → TracingState B S → TracingState B S → Type 0
      Ends context_of context old new = MatchOption (number_of context_of old.spans context)
          (new ≡ old) (λ number. Exits number old new)

    -- ---- the current span

    -- An event was added to the span with the number, at a timestamp of the clock, or no span
    -- changed, out of memory. Nothing happens without a number (`Tracing::add_event`).
    abbrev pub AddsEvent : {X : Type 0} → (S → ℕ → S) → Option ℕ → Result (Unit {0}) X
        → TracingState B S → TracingState B S → Type 0
    AddsEvent with_event number answer old new = MatchOption number (IsOk answer × (new ≡ old))
        (λ n. ((now : ℕ) × calls.may_show old.source now
        × OnOk answer (new ≡ with_changed (λ span. with_event span now) (Some n) old)
        × OnErr answer (new ≡ old)))

    -- The error's event was added to the span with the number, at a timestamp of the clock, or no
    -- span changed, out of memory. Nothing happens without a number. `output` is the string that
    -- the error prints, if its type says that (`Tracing::record_error`).
    abbrev pub RecordsIn : {X : Type 0} → (S → List ℕ → ℕ → List Attribute → S)
        → Option (List ℕ) → Option ℕ → Result (Unit {0}) X
        → TracingState B S → TracingState B S → Type 0
    RecordsIn after_event output number answer old new =
        MatchOption number (IsOk answer × (new ≡ old))
        (λ n. ((now : ℕ) × calls.may_show old.source now
        × OnOk answer ((text : List ℕ) × IfSome output (λ bytes. text ≡ bytes)
        × (new ≡ with_changed (with_exception after_event text now) (Some n) old))
        × OnErr answer (new ≡ old)))

    -- ---- work in a span

    -- The error's event was added to the span, at a timestamp of the clock, and the span has the
    -- status `Error` with the error's string.
    pub record RecordsFailure (after_event : S → List ℕ → ℕ → List Attribute → S)
        (after_status : S → Status → S) (output : Option (List ℕ)) (number : ℕ)
        (old new : TracingState B S) : Type 0 where
      pub now : ℕ
      pub shown : calls.may_show old.source now
      pub text : List ℕ
      pub printed : IfSome output (λ bytes. text ≡ bytes)
      pub state : new ≡ with_changed (with_failure after_event after_status text now)
          (Some number) old

    -- The failure was recorded in the span with the number if it records, or that failed and was
    -- counted.
    abbrev pub Fails : (S → Bool) → (S → List ℕ → ℕ → List Attribute → S) → (S → Status → S)
        → Option (List ℕ) → ℕ → TracingState B S → TracingState B S → Type 0
    Fails records after_event after_status output number old new =
        MatchOption (recording records old.spans (Some number)) (new ≡ old)
        (λ n. RecordsFailure after_event after_status output n old new
        ⊎ (new ≡ with_unrecorded old))

    module _ {T F Out : Type 0} (held : T → TracingState B S)
        (f : Once F (MutBor T × Unit {0}) (Out × (MutBor T × Unit {0}))) (work : F)
        (context_of : S → SpanContextRecord) where
      -- no span could be entered, which was counted, and the work ran once without one
      pub record RunsWithout (old new : T) (out : Out) : Type 0 where
        pub lent : T
        pub none : TracingState B S
        pub refused : StartsNone (held old) none
        pub counted : held lent ≡ with_unrecorded none
        pub ran : FnOnceReturnsAtMut f work lent out new

      -- the work ran once in a span that was entered before and exited after it
      pub record RunsEntered (after_end : S → ℕ → S) (builder : BuilderRecord) (old new : T)
          (out : Out) : Type 0 where
        pub entered : Entered
        pub lent : T
        pub left : T
        pub enters : Enters context_of builder (held old) (held lent) entered
        pub ran : FnOnceReturnsAtMut f work lent out left
        pub exits : Exits after_end entered.number (held left) (held new)

      -- the work ran once, in a span or, if none could be entered, without one
      -- (`Tracing::in_span`)
      abbrev pub Runs : (S → ℕ → S) → BuilderRecord → T → T → Out → Type 0
      Runs after_end builder old new out =
          RunsEntered after_end builder old new out ⊎ RunsWithout old new out

    -- If the outcome is an error, it was recorded in the span. Then the span was exited
    -- (`Tracing::exit_with`).
    pub record ExitsWith {O X : Type 0} (after_end : S → ℕ → S)
        (fails : X → ℕ → TracingState B S → TracingState B S → Type 0) (number : ℕ)
        (outcome : Result O X) (old new : TracingState B S) : Type 0 where
      pub recorded : TracingState B S
      pub done : OnOk outcome (recorded ≡ old)
      pub failed : IfErr outcome (λ error. fails error number old recorded)
      pub exits : Exits after_end number recorded new

    -- The work ran once in a span that was entered before and exited after it, with the outcome.
    pub record TriesEntered {T F O X : Type 0} (held : T → TracingState B S)
        (f : Once F (MutBor T × Unit {0}) (Result O X × (MutBor T × Unit {0}))) (work : F)
        (context_of : S → SpanContextRecord) (after_end : S → ℕ → S)
        (fails : X → ℕ → TracingState B S → TracingState B S → Type 0)
        (builder : BuilderRecord) (old new : T) (out : Result O X) : Type 0 where
      pub entered : Entered
      pub lent : T
      pub left : T
      pub enters : Enters context_of builder (held old) (held lent) entered
      pub ran : FnOnceReturnsAtMut f work lent out left
      pub exits : ExitsWith after_end fails entered.number out (held left) (held new)

    -- the work ran once, in a span or, if none could be entered, without one
    -- (`Tracing::try_in_span`)
    abbrev pub Tries : {T F O X : Type 0} → (T → TracingState B S)
        → Once F (MutBor T × Unit {0}) (Result O X × (MutBor T × Unit {0})) → F
        → (S → SpanContextRecord) → (S → ℕ → S)
        → (X → ℕ → TracingState B S → TracingState B S → Type 0) → BuilderRecord
        → T → T → Result O X → Type 0
    Tries held f work context_of after_end fails builder old new out =
        TriesEntered held f work context_of after_end fails builder old new out
        ⊎ RunsWithout held f work context_of old new out
