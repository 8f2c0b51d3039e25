-- The meaning of the program's exit status for its input. Not in the Rust crate.
use Rattle.std.specs.Prelude.{◌⊎◌, ℕ, List, IsUtf8}
use Rattle.opentelemetry.specs.declared.carry.event.StackEvent.{StackEvent}
use Rattle.otel_carry.specs.declared.lines.Fault.{Fault}
use Rattle.otel_carry.specs.declared.failure.Failure.{Failure}
use Rattle.otel_carry.specs.declared.failure.Failure.TheVariants.{Unreadable, NotUtf8, Line}
use Rattle.otel_carry.specs.declared.failure.Failure.TheVariants.{NoMemory}
use Rattle.otel_carry.specs.Events.{AskFor, IsFirstFaulty, lines_of}

-- the input isn't UTF-8, or one of its lines is faulty, such as the second of `attach a`, `attach`
abbrev pub IsFaultyInput : List ℕ → Type 0
IsFaultyInput input =
    ¬ IsUtf8 input
    ⊎ ((number : ℕ) × (fault : Fault) × IsFirstFaulty (lines_of input) number fault)

-- the input is UTF-8, and its lines request these events
abbrev pub IsGoodInput : List ℕ → List StackEvent → Type 0
IsGoodInput input events = IsUtf8 input × AskFor (lines_of input) events

-- the input is UTF-8, and its lines request events
abbrev pub IsGood : List ℕ → Type 0
IsGood input = (events : List StackEvent) × IsGoodInput input events

-- The failure is possible for this input: its first fault or, for any input, that it can't be read
-- or that the program is out of memory.
abbrev pub IsFailureOf : List ℕ → Failure → Type 0
IsFailureOf input Unreadable = Unit {0}
IsFailureOf input NotUtf8 = ¬ IsUtf8 input
IsFailureOf input (Line number fault) = IsFirstFaulty (lines_of input) number fault
IsFailureOf input NoMemory = Unit {0}
