-- The exit status and the output if there is no report. Not in the Rust crate.
use Rattle.std.specs.Prelude.{ℕ, List, ◌++◌, codes}
use Rattle.std.specs.Fmt.{decimal}
use Rattle.otel_carry.specs.Lines.{fault_text}
use Rattle.otel_carry.specs.declared.failure.Failure.{Failure}
use Rattle.otel_carry.specs.declared.failure.Failure.TheVariants.{Unreadable, NotUtf8, Line}
use Rattle.otel_carry.specs.declared.failure.Failure.TheVariants.{NoMemory}

-- the exit status of the program: 2 if the input has a fault, otherwise 1
abbrev pub status_of : Failure → ℕ
status_of Unreadable = 1
status_of NotUtf8 = 2
status_of (Line number fault) = 2
status_of NoMemory = 1

-- the text that is written
abbrev pub text_of : Failure → List ℕ
text_of Unreadable = codes "input: cannot be read"
text_of NotUtf8 = codes "input: not UTF-8"
text_of (Line number fault) = codes "line " ++ decimal number ++ codes ": " ++ fault_text fault
text_of NoMemory = codes "no memory"
