-- Writing a text to the caller's room.
use Rattle.std.specs.Prelude.{◌≡◌, ◌⊎◌, ℕ, List, ◌++◌, Option, Some, drop, length}
use Rattle.otel_c.specs.declared.status.Status.{Status}
use Rattle.otel_c.specs.Status.{HasNoRoom, IsNothing}

-- the text is at the front of the room, whose rest is unchanged, and its length is written
pub record Holds (text old new : List ℕ) (written : ℕ) : Type 0 where
  pub room : new ≡ text ++ drop (length text) old
  pub length : written ≡ length text

-- the text is longer than the room, and its length is written
pub record IsLong (text old : List ℕ) (written : ℕ) (s : Status) : Type 0 where
  pub short : HasNoRoom text old s
  pub length : written ≡ length text

-- the room holds the text that was found
pub record HoldsFound (found : Option (List ℕ)) (old new : List ℕ) (written : ℕ) : Type 0 where
  pub text : List ℕ
  pub is : found ≡ Some text
  pub holds : Holds text old new written

-- the text that was found is longer than the room
pub record FoundIsLong (found : Option (List ℕ)) (old : List ℕ) (written : ℕ) (s : Status)
    : Type 0 where
  pub text : List ℕ
  pub is : found ≡ Some text
  pub long : IsLong text old written s

-- why no text was written
abbrev pub FoundRefused : Option (List ℕ) → List ℕ → ℕ → Status → Type 0
FoundRefused found old written s = IsNothing found s ⊎ FoundIsLong found old written s
