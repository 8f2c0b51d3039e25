-- The events that the lines of the input request, and the line that is reported as faulty. Not in
-- the Rust crate.
use Rattle.std.specs.Prelude.{◌≡◌, ℕ, ◌+◌, ◌==◌, Bool, true, not, List, ◌∷◌, ◌++◌, length, take}
use Rattle.std.specs.Prelude.{filter, slice_get, Option, Some, None, IsSome, IfSome, codes}
use Rattle.std.specs.List.{slice_split}
use denote.Ref.{Bor}
use Rattle.otel_ids.specs.TraceState.{Pair}
use Rattle.otel_ids.specs.Reading.{fault_of, Reads as ReadsState}
use Rattle.otel_ids.specs.declared.error.TraceStateError.{TraceStateError}
use Rattle.otel_ids.specs.declared.error.TraceStateError.TheVariants as errors
use Rattle.opentelemetry.specs.declared.carry.event.StackEvent.{StackEvent}
use Rattle.opentelemetry.specs.declared.carry.event.StackEvent.TheVariants.{Attach, Detach}
use Rattle.opentelemetry.specs.Run.{attaches_of}
use Rattle.otel_carry.specs.declared.lines.Fault.{Fault}
use Rattle.otel_carry.specs.declared.lines.Fault.TheVariants.{UnknownCommand, BadName}
use Rattle.otel_carry.specs.declared.lines.Fault.TheVariants.{BadTraceState, BadNumber}
use Rattle.otel_carry.specs.declared.failure.Failure.{Failure}
use Rattle.otel_carry.specs.declared.failure.Failure.TheVariants.{Unreadable, NotUtf8, Line}
use Rattle.otel_carry.specs.declared.failure.Failure.TheVariants.{NoMemory}
use Rattle.otel_carry.specs.Lines.{IsName, IsNumber, IsFault}
use Rattle.otel_carry.specs.NamedContext.{context_for}

-- the line attaches a context with this name and, if given, this trace state, as `attach a v=1`
-- does
abbrev pub IsAttachLine : List ℕ → List ℕ → Option (List Pair) → Type 0
IsAttachLine line name None = IsName name × (line ≡ codes "attach " ++ name)
IsAttachLine line name (Some pairs) =
    IsName name
    × ((state : List ℕ) × (line ≡ codes "attach " ++ (name ++ (32 ∷ state)))
    × ReadsState state pairs)

-- the line requests this event, after this many attaches
abbrev pub AsksFor : ℕ → List ℕ → StackEvent → Type 0
AsksFor attaches line (Attach context) =
    (name : List ℕ) × (state : Option (List Pair)) × IsAttachLine line name state
    × (context ≡ context_for name state (attaches + 1))
AsksFor attaches line (Detach number) =
    (digits : List ℕ) × (line ≡ codes "detach " ++ digits) × IsNumber digits number

-- the lines of an input, split at its line feeds: `a\n` has the lines `a` and the empty line
abbrev pub lines_of : List ℕ → List (List ℕ)
lines_of text = slice_split (λ byte. byte == 10) text

-- whether the line isn't empty
abbrev pub is_asking : List ℕ → Bool
is_asking line = not (length line == 0)

-- the lines that request something: all except the empty ones
abbrev pub asking : List (List ℕ) → List (List ℕ)
asking lines = filter is_asking lines

-- The events that the lines request, one each, in order. The number of attaches before an event
-- determines its context's ids. For `attach a`, the empty line, `detach 0`: the attach of `a` and
-- the detach of 0.
pub record AskFor (lines : List (List ℕ)) (events : List StackEvent) : Type 0 where
  pub one_each : length events ≡ length (asking lines)
  pub each : (index : ℕ) (line : List ℕ) → slice_get (asking lines) index ≡ Some line
      → IfSome (slice_get events index) (AsksFor (attaches_of (take index events)) line)

-- the line has this fault: in its form, or in its trace state by the W3C's rules
abbrev pub IsFaulty : List ℕ → Fault → Type 0
IsFaulty line UnknownCommand = IsFault line UnknownCommand
IsFaulty line BadName = IsFault line BadName
IsFaulty line BadTraceState =
    (name : List ℕ) × (state : List ℕ) × IsName name
    × (line ≡ codes "attach " ++ (name ++ (32 ∷ state))) × IsSome (fault_of state)
IsFaulty line BadNumber = IsFault line BadNumber

-- the failure reports the fault of the line with this number, or that the program is out of memory
abbrev pub IsTold : ℕ → List ℕ → Failure → Type 0
IsTold number line Unreadable = ⊥
IsTold number line NotUtf8 = ⊥
IsTold number line (Line n fault) = (n ≡ number) × IsFaulty line fault
IsTold number line NoMemory = Unit {0}

-- The first faulty line has this fault and this number, counted from 1 and including empty lines:
-- the lines before it request events.
pub record IsFirstFaulty (lines : List (List ℕ)) (number : ℕ) (fault : Fault) : Type 0 where
  pub before : ℕ
  pub number_is : number ≡ before + 1
  pub line : List ℕ
  pub at : slice_get lines before ≡ Some line
  pub asks : is_asking line ≡ true
  pub faulty : IsFaulty line fault
  pub events : List StackEvent
  pub asked : AskFor (take before lines) events

-- the failure reports the first faulty line, or that the program is out of memory
abbrev pub IsReported : List (List ℕ) → Failure → Type 0
IsReported lines Unreadable = ⊥
IsReported lines NotUtf8 = ⊥
IsReported lines (Line number fault) = IsFirstFaulty lines number fault
IsReported lines NoMemory = Unit {0}

-- the trace state of a line was read, if the line has one
abbrev pub AreRead : Option (Bor (List ℕ)) → Option (List Pair) → Type 0
AreRead None None = Unit {0}
AreRead None (Some pairs) = ⊥
AreRead (Some text) None = ⊥
AreRead (Some text) (Some pairs) = ReadsState text.now pairs

-- the trace state of a line has a fault, or the program is out of memory
abbrev pub IsFaultIn : Option (Bor (List ℕ)) → TraceStateError → Type 0
IsFaultIn text (errors.Memory e) = Unit {0}
IsFaultIn None (errors.Key t) = ⊥
IsFaultIn None (errors.Value t) = ⊥
IsFaultIn None (errors.List t) = ⊥
IsFaultIn (Some text) (errors.Key t) = IsSome (fault_of text.now)
IsFaultIn (Some text) (errors.Value t) = IsSome (fault_of text.now)
IsFaultIn (Some text) (errors.List t) = IsSome (fault_of text.now)
