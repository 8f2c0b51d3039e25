-- Where in a line a value isn't allowed. Not in the Rust crates.
use Rattle.std.specs.Prelude.{◌≡◌, ◌==◌, ℕ, List, [], ◌∷◌, ◌++◌, codes, string_bytes, ⊤}
use Rattle.std.specs.Prelude.{if◌then◌else◌, refl, Some, None}
use Rattle.std.specs.Fmt.{decimal}
use Rattle.otel_otlp.specs.ReadMembers.{IsRefused, IsObject}
use Rattle.serde_json.specs.Data.{Data}
use Rattle.serde_json.specs.Read.{read}
use Rattle.otel_otlp.specs.declared.read.error.Fault.{Fault}
use Rattle.otel_otlp.specs.declared.read.error.Fault.TheVariants as fault
use Rattle.otel_otlp.specs.declared.read.error.ReadError.{ReadError}
use Rattle.otel_otlp.specs.declared.read.error.ReadError.TheVariants as error

-- the step to the item of this index, counted from 0
abbrev pub item_step : ℕ → List ℕ
item_step index = codes "[" ++ decimal index ++ codes "]"

-- the text between a step and a place within it: a dot, unless the place begins with the index of
-- an item, or is empty
abbrev pub separator_of : List ℕ → List ℕ
separator_of [] = []
separator_of (c ∷ more) = if c == 91 then [] else codes "."

-- the place within a step
abbrev pub place_within : List ℕ → List ℕ → List ℕ
place_within step place = step ++ separator_of place ++ place

-- the fault says that this kind of value is wanted at the place, unless memory ran out
abbrev pub NamesPlace : List ℕ → List ℕ → Fault → Type 0
NamesPlace place wanted (fault.Unexpected at kind) = (string_bytes at ≡ place) × (kind.now ≡ wanted)
NamesPlace place wanted (fault.Memory failed) = ⊤

-- the same fault, with the step before its place, unless memory ran out
abbrev pub IsWithin : List ℕ → Fault → Fault → Type 0
IsWithin step (fault.Unexpected place wanted) told =
    NamesPlace (place_within step (string_bytes place)) wanted.now told
IsWithin step (fault.Memory failed) told = IsRefused told → ⊥

-- ---- a whole line
-- the error of a line with this fault
abbrev pub told : Fault → ReadError
told (fault.Unexpected place wanted) = error.Unexpected place wanted
told (fault.Memory failed) = error.Memory failed

-- the line was refused; memory didn't run out
abbrev pub IsRefusal : ReadError → Type 0
IsRefusal error.Json = Unit {0}
IsRefusal (error.Unexpected place wanted) = Unit {0}
IsRefusal (error.Memory failed) = ⊥

-- the error says that the line isn't JSON
abbrev pub SaysNoJson : ReadError → Type 0
SaysNoJson error.Json = ⊤
SaysNoJson (error.Unexpected place wanted) = ⊥
SaysNoJson (error.Memory failed) = ⊥

-- the error says that an object is wanted for the line, unless memory ran out
abbrev pub IsNoObject : ReadError → Type 0
IsNoObject error.Json = ⊥
IsNoObject (error.Unexpected at kind) =
    (string_bytes at ≡ codes "line") × (kind.now ≡ codes "an object")
IsNoObject (error.Memory failed) = ⊤

-- the line isn't JSON, or memory ran out
abbrev pub IsNoJson : ReadError → Type 0
IsNoJson error.Json = ⊤
IsNoJson (error.Unexpected place wanted) = ⊥
IsNoJson (error.Memory failed) = ⊤

-- the error of a line that isn't JSON, or whose JSON is no object; only the first is told not to be
-- JSON
pub record NamesLine (line : List ℕ) (e : ReadError) : Type 0 where
  pub no_json : read line ≡ None → IsNoJson e
  pub no_object : (d : Data) → read line ≡ Some d → ¬ (IsObject d) → IsNoObject e
  pub json : SaysNoJson e → read line ≡ None

-- ---- worked rows
second_span : place_within (codes "spans") (place_within (codes "[1]") (codes "traceId"))
    ≡ codes "spans[1].traceId"
second_span = refl
