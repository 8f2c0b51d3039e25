-- A file that is appended to, and the newline that its last line may lack: another program was
-- killed, or the disk was full, while it wrote the line.
use Rattle.std.specs.Prelude.{◌≡◌, ◌⊎◌, ◌==◌, ℕ, zero, suc, Bool, true, false, List, [], ◌∷◌}
use Rattle.std.specs.Prelude.{if◌then◌else◌, slice_get, Option, Some, None, Result, Ok, Err, refl}
use Rattle.std.specs.declared.io.Error.{Error}
use Rattle.otel_sdk_base.specs.Writers.{TakesNone}

-- its path, and whether the last line that was written to it here still lacks its newline
pub record Appending : Type 0 where
  pub path : List ℕ
  pub is_within_line : Bool

-- a new file of the path
abbrev pub initial : List ℕ → Appending
initial path = record { path = path; is_within_line = false }

-- whether a line with this last byte lacks its newline, U+000A; no line, no newline is missing
abbrev pub is_torn : Option ℕ → Bool
is_torn None = false
is_torn (Some byte) = if byte == 10 then false else true

-- ---- calls
-- whether the bytes begin a line, and not with a newline
abbrev pub begins_line : Appending → List ℕ → Bool
begins_line f bytes = if f.is_within_line then false else is_torn (slice_get bytes 0)

-- The path's file was opened and locked, and this was done to it; or that failed with this error.
-- `locks` relates a path and the file that was opened there and locked.
module _ {F : Type 0} (locks : List ℕ → Result F Error → Type 0) (path : List ℕ)
    (answer : Result ℕ Error) (Does : F → Type 0) where
  abbrev pub AnswersFor : Result F Error → Type 0
  AnswersFor (Ok file) = Does file
  AnswersFor (Err error) = answer ≡ Err error

  abbrev pub UnderLock : Type 0
  UnderLock = (locked : Result F Error) × locks path locked × AnswersFor locked

-- A line was appended to an open file, after a newline if its last line lacks its own. `ends`
-- relates the file and its last byte, and `appends` the file, bytes and an answer.
module _ {F : Type 0} (ends : F → Option ℕ → Type 0)
    (appends : F → List ℕ → Result ℕ Error → Type 0) (bytes : List ℕ)
    (answer : Result ℕ Error) (file : F) where
  -- a newline was appended, and then the bytes; or the newline wasn't taken, and this is its answer
  abbrev pub FollowsNewline : Type 0
  FollowsNewline =
      (appends file (10 ∷ []) (Ok 1) × appends file bytes answer)
      ⊎ (appends file (10 ∷ []) answer × TakesNone answer)

  pub record AppendsLine : Type 0 where
    pub last : Option ℕ
    pub looked : ends file last
    pub whole : is_torn last ≡ false → appends file bytes answer
    pub torn : is_torn last ≡ true → FollowsNewline

-- whether the line lacks its newline once so many of the bytes are appended
abbrev pub is_within_after : Bool → List ℕ → ℕ → Bool
is_within_after was bytes zero = was
is_within_after was bytes (suc n) = is_torn (slice_get bytes n)

-- the file once it has answered a write of the bytes
abbrev pub after_write : Appending → List ℕ → Result ℕ Error → Appending
after_write f bytes (Ok count) = record f {
  is_within_line = is_within_after f.is_within_line bytes count;
}
after_write f bytes (Err error) = f

-- ---- worked rows
-- a line without its newline is torn; one with it and an empty file aren't
torn_example : is_torn (Some 125) ≡ true
torn_example = refl

whole_example : is_torn (Some 10) ≡ false
whole_example = refl
