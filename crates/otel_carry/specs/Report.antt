-- The output of the program, line by line. Not in the Rust crate.
use Rattle.std.specs.Prelude.{◌≡◌, ℕ, List, [], ◌++◌, codes, Option, unwrap_or}
use Rattle.std.specs.Fmt.{decimal}
use Rattle.std.specs.HashMap.{HashMap}
use Rattle.std.specs.Io.KnownBytes.{Appends}
use Rattle.std.specs.List.{enumerate_from, flat_map}
use Rattle.std.specs.Option.{option_map_or}
use Rattle.std.specs.declared.string.String.{String}
use denote.Ref.{Bor}
use Rattle.otel_context.specs.Context.{ContextRecord}
use Rattle.opentelemetry.specs.Carrier.{TextMap, AreKeys, at, text_map}
use Rattle.opentelemetry.specs.declared.carry.event.AttachOutcome.{AttachOutcome}
use Rattle.opentelemetry.specs.declared.carry.event.AttachOutcome.TheVariants.{Attached, Full}
use Rattle.opentelemetry.specs.declared.carry.event.AttachOutcome.TheVariants.{NoMemory}
use Rattle.otel_carry.specs.Extracted as extraction
use Rattle.otel_carry.specs.Failures as failures
use Rattle.otel_carry.specs.NamedContext.{name_in}
use Rattle.otel_carry.specs.declared.failure.Failure.{Failure}

-- the line of the attach with this number
abbrev pub outcome_line : ℕ → AttachOutcome → List ℕ
outcome_line number (Attached position) =
    codes "attach " ++ decimal number ++ codes ": position " ++ decimal position ++ codes "\n"
outcome_line number Full = codes "attach " ++ decimal number ++ codes ": full\n"
outcome_line number NoMemory = codes "attach " ++ decimal number ++ codes ": no memory\n"

-- the lines of the attaches with these outcomes, numbered from 0
abbrev pub outcome_lines : List AttachOutcome → List ℕ
outcome_lines outcomes = flat_map (λ it. outcome_line it.0 it.1) (enumerate_from 0 outcomes)

-- the line that names the current context: `current: a`, or `current: base` if it has no name
abbrev pub current_line : ContextRecord → List ℕ
current_line context = codes "current: " ++ unwrap_or (name_in context) (codes "base") ++ codes "\n"

-- the line `key=value` of a key, if it has a value
abbrev pub text_line : TextMap → List ℕ → List ℕ
text_line texts key =
    option_map_or (λ value. key ++ codes "=" ++ value ++ codes "\n") (at texts key) []

-- the line of a key in a map of texts
abbrev pub line_at : {A S : Type 0} → HashMap (String A) (String A) S → List ℕ → List ℕ
line_at texts key = text_line (text_map texts.entries) key

-- the lines of these keys, in order
abbrev pub lines_at : {A S : Type 0} → HashMap (String A) (String A) S → List (Bor (List ℕ))
    → List ℕ
lines_at texts keys = flat_map (λ key. line_at texts key.now) keys

-- the lines of a carrier's texts: one for each key, in ascending order of the keys' bytes
pub record AreTextLines (texts : TextMap) (lines : List ℕ) : Type 0 where
  pub keys : List (List ℕ)
  pub are_keys : AreKeys texts keys
  pub lines_are : lines ≡ flat_map (text_line texts) keys

-- the lines of a map of texts
abbrev pub AreLinesOf : {A S : Type 0} → HashMap (String A) (String A) S → List ℕ → Type 0
AreLinesOf texts lines = AreTextLines (text_map texts.entries) lines

-- the line of the context extracted from a carrier
abbrev pub extracted_line : ContextRecord → List ℕ
extracted_line context =
    codes "extracted: " ++ extraction.text_of (extraction.shown_of_context context) ++ codes "\n"

-- the line of a failure
abbrev pub failure_line : Failure → List ℕ
failure_line failure = failures.text_of failure ++ codes "\n"

-- one text that meets P was written, and nothing else
pub record Writes (P : List ℕ → Type 0) (old new : Option (List ℕ)) : Type 0 where
  pub text : List ℕ
  pub is : P text
  pub appended : Appends old new text
