-- Key-value pairs, and a source location, as attributes.
use Rattle.std.specs.Prelude.{◌≡◌, ◌⊎◌, ℕ, Bool, List, [], ◌∷◌, ◌++◌, Option, Some, None, codes}
use Rattle.std.specs.Prelude.{if◌then◌else◌}
use Rattle.std.specs.Fmt.{signed_decimal}
use Rattle.std.specs.List.{list_any}
use Rattle.std.specs.Str.{bytes_eq}
use Rattle.log.specs.declared.kv.value.Value.{Value}
use Rattle.log.specs.Kv.{Pair, bool_text}
use Rattle.otel_base.specs.AnyValue.{Tree, integer, text, boolean}
use Rattle.otel_appender_log.specs.Value.{IsAttributeValue}

-- a key with its value
abbrev pub Attribute : Type 0
Attribute = List ℕ × Tree

-- the attribute's value prints as the text
abbrev pub PrintsAs : Tree → List ℕ → Type 0
PrintsAs (integer z) printed = signed_decimal z ≡ printed
PrintsAs (boolean b) printed = bool_text b ≡ printed
PrintsAs (text s) printed = s ≡ printed
PrintsAs _ printed = ⊥

-- A pair whose printed text is known was added last, with a value that prints as that text. It may
-- have been left out only if it prints as null does.
abbrev pub TakesPair : List Attribute → Pair → List Attribute → Type 0
TakesPair before pair after =
    ((value : Tree) × PrintsAs value pair.1 × (after ≡ before ++ (pair.0, value) ∷ []))
    ⊎ ((pair.1 ≡ codes "None") × (after ≡ before))

-- the attributes followed by this one, if it has a value
abbrev pub with_value : List Attribute → List ℕ → Option Tree → List Attribute
with_value attributes key None = attributes
with_value attributes key (Some value) = attributes ++ (key, value) ∷ []

-- The attribute of a pair, if it has one, was added last. Here the type of the value matters too.
abbrev pub AddsValue : {D : Type 0} → (D → Option (List ℕ)) → List ℕ → Value D
    → List Attribute → List Attribute → Type 0
AddsValue output key value before after =
    (given : Option Tree) × IsAttributeValue output value given
    × (after ≡ with_value before key given)

-- an attribute has the key
abbrev pub has_key : List ℕ → List Attribute → Bool
has_key key attributes = list_any (λ a. bytes_eq a.0 key) attributes

-- the attributes followed by this one, if it has a value and its key isn't present
abbrev pub with_absent : List Attribute → List ℕ → Option Tree → List Attribute
with_absent attributes key None = attributes
with_absent attributes key (Some value) =
    if has_key key attributes then attributes else attributes ++ (key, value) ∷ []
