-- The effect of the provided calls of a span.
use Rattle.std.specs.Prelude.{◌≡◌, ◌<◌, ℕ, List, [], ◌∷◌, ◌++◌, length, map, take, fold, codes}
use Rattle.std.specs.Prelude.{Bool, Option, IfSome, MatchBool}
use Rattle.std.specs.declared.vec.Vec.{Vec}
use Rattle.std.specs.declared.alloc.Global.{Global}
use Rattle.otel_base.specs.KeyValue.{Attribute}
use Rattle.otel_base.specs.Value.{text}
use Rattle.otel_base.specs.View.{attribute_of}
use Rattle.otel_base.specs.declared.key_value.KeyValue.{KeyValue}

-- the attributes of a list, in order
abbrev pub attributes_of : Vec KeyValue Global → List Attribute
attributes_of attributes = map attribute_of attributes.items

-- the one attribute of an error's event: `exception.message`, with the error's text (OpenTelemetry
-- semantic conventions, "Exceptions")
abbrev pub message : List ℕ → List Attribute
message printed = (codes "exception.message", text printed) ∷ []

module _ {S : Type 0} where
  -- each attribute set in order, from the first
  abbrev pub each_set : (S → Attribute → S) → S → List Attribute → S
  each_set after_attribute span attributes = fold after_attribute span attributes

  -- if the span records, each attribute is set in order; otherwise it is unchanged (the Rust
  -- crate's `set_attributes`)
  abbrev pub SetsAttributes : (S → Bool) → (S → Attribute → S) → S → List Attribute → S
      → Type 0
  SetsAttributes is_recording after_attribute old attributes new =
      MatchBool (is_recording old) (new ≡ each_set after_attribute old attributes) (new ≡ old)

  -- a prefix of the attributes was set, in order, but not all
  pub record SetsBeginning (after_attribute : S → Attribute → S) (old : S)
      (attributes : List Attribute) (new : S) : Type 0 where
    pub count : ℕ
    pub within : count < length attributes
    pub set : new ≡ each_set after_attribute old (take count attributes)

  -- an event `exception` at that time, with the error's printed text, if the error's type specifies
  -- what it prints
  pub record AddsException (after_event : List ℕ → ℕ → List Attribute → S)
      (output : Option (List ℕ)) (time : ℕ) (new : S) : Type 0 where
    pub printed : List ℕ
    pub prints : IfSome output (λ bytes. printed ≡ bytes)
    pub added : new ≡ after_event (codes "exception") time (message printed)

  -- if the span records, the error's event is added; otherwise it is unchanged (the Rust crate's
  -- `record_error`)
  abbrev pub RecordsError : (S → Bool) → (S → List ℕ → ℕ → List Attribute → S) → S
      → Option (List ℕ) → ℕ → S → Type 0
  RecordsError is_recording after_event old output time new =
      MatchBool (is_recording old) (AddsException (after_event old) output time new) (new ≡ old)

  -- the first ones were set, and the others remain
  pub record SetSoFar (after_attribute : S → Attribute → S) (old : S)
      (attributes : List Attribute) (new : S) (done left : List Attribute) : Type 0 where
    pub set : new ≡ each_set after_attribute old done
    pub parts : attributes ≡ done ++ left
