-- The lines of a file that have no spans.
use Rattle.std.specs.Prelude.{◌≡◌, ℕ, ◌+◌, List, [], ◌∷◌, ◌++◌, length, nat_lt, if◌then◌else◌}
use Rattle.std.specs.Prelude.{Bool, true, false}
use Rattle.std.specs.Char.{is_ascii_whitespace}
use Rattle.std.specs.List.{list_all}
use Rattle.opentelemetry.specs.Clock.{within_u64}
use Rattle.otel_view.specs.declared.input.Skipped.{Skipped}

-- the numbers of the first ten lines
abbrev pub noted : ℕ → List ℕ → List ℕ
noted number numbers = if nat_lt (length numbers) 10 then numbers ++ number ∷ [] else numbers

-- one more line, with this number
pub record AddsLine (number : ℕ) (old new : Skipped) : Type 0 where
  pub count : new.count ≡ within_u64 (old.count + 1)
  pub numbers : new.numbers.items ≡ noted number old.numbers.items

-- whether a line has only spaces
abbrev pub is_blank : List ℕ → Bool
is_blank line = list_all is_ascii_whitespace line

-- a line without spans is added, unless it is blank
abbrev pub SkipsLine : ℕ → List ℕ → Skipped → Skipped → Type 0
SkipsLine number line old new = if_blank (is_blank line)
  where
    if_blank : Bool → Type 0
    if_blank true = new ≡ old
    if_blank false = AddsLine number old new
