-- Attributes and their values, read from JSON whoever wrote it [OpenTelemetry protocol, "JSON
-- Protobuf Encoding"; opentelemetry/proto/common/v1/common.proto].
use Rattle.std.specs.Prelude.{◌≡◌, ℕ, ℤ, Bool, List, [], codes}
use Rattle.std.specs.Prelude.{Option, Some, MatchOption, option_and_then}
use Rattle.std.specs.Option.{option_or}
use Rattle.std.specs.Bool.{MatchBool}
use Rattle.otel_base.specs.Array.{ArrayValue, booleans, integers, texts}
use Rattle.otel_base.specs.KeyValue.{Attribute}
use Rattle.otel_base.specs.Value as value
use Rattle.otel_base.specs.Value.{AttributeValue}
use Rattle.otel_otlp.specs.Json.{IsTextOf}
use Rattle.otel_otlp.specs.ReadMembers.{IsObject, member_of, has, text_in}
use Rattle.otel_otlp.specs.ReadMembers.{IsNarrowIn, IsInteger, list_in, AreIn, all_have}
use Rattle.serde_json.specs.Data.{Data, null, boolean, number, string, array, object}
use Rattle.serde_json.specs.Find.{as_bool}

-- ---- AnyValue
abbrev pub IsTruth : Data → Bool → Type 0
IsTruth d b = option_and_then as_bool (member_of (codes "boolValue") d) ≡ Some b

abbrev pub IsWhole : Data → ℤ → Type 0
IsWhole d z = MatchOption (member_of (codes "intValue") d) ⊥ (λ n. IsInteger n (Some z))

-- a value that the attributes of the API have, except for a text
abbrev pub held_case : Data → Option Data
held_case d =
    option_or (member_of (codes "boolValue") d)
    (option_or (member_of (codes "intValue") d) (member_of (codes "arrayValue") d))

-- a text, or a value that they don't have
abbrev pub held_other : Data → Option Data
held_other d =
    option_or (member_of (codes "stringValue") d)
    (option_or (member_of (codes "doubleValue") d)
    (option_or (member_of (codes "bytesValue") d) (member_of (codes "kvlistValue") d)))

-- the value that an AnyValue holds
abbrev pub held : Data → Option Data
held d = option_or (held_other d) (held_case d)

-- a text is itself; of any other value, it is its JSON
abbrev pub IsTextFor : Data → List ℕ → Type 0
IsTextFor null text = IsTextOf text null
IsTextFor (boolean b) text = IsTextOf text (boolean b)
IsTextFor (number n) text = IsTextOf text (number n)
IsTextFor (string s) text = text ≡ s
IsTextFor (array ds) text = IsTextOf text (array ds)
IsTextFor (object ms) text = IsTextOf text (object ms)

-- the text for any value; for the empty value, it is empty
abbrev pub IsHeldText : Data → List ℕ → Type 0
IsHeldText d text = MatchOption (held d) (text ≡ []) (λ value. IsTextFor value text)

abbrev pub IsItemText : Data → List ℕ → Type 0
IsItemText d text = IsObject d × IsHeldText d text

abbrev pub all_values_have : List ℕ → Data → Bool
all_values_have name d = all_have name (list_in (codes "values") d)

abbrev pub AreTruths : Data → ArrayValue → Type 0
AreTruths d xs = (bs : List Bool) × (xs ≡ booleans bs) × AreIn IsTruth (codes "values") d bs

abbrev pub AreWhole : Data → ArrayValue → Type 0
AreWhole d xs = (zs : List ℤ) × (xs ≡ integers zs) × AreIn IsWhole (codes "values") d zs

abbrev pub AreTexts : Data → ArrayValue → Type 0
AreTexts d xs = (ts : List (List ℕ)) × (xs ≡ texts ts) × AreIn IsItemText (codes "values") d ts

-- an array of one type if its items are all truth values or all integers, otherwise of their texts
abbrev pub IsArray : Data → ArrayValue → Type 0
IsArray d xs =
    MatchBool (all_values_have (codes "boolValue") d) (AreTruths d xs)
    (MatchBool (all_values_have (codes "intValue") d) (AreWhole d xs) (AreTexts d xs))

-- the attributes of the API have no floats, bytes and maps: the text for the value instead
abbrev pub IsOther : Data → AttributeValue → Type 0
IsOther d v =
    MatchOption (member_of (codes "arrayValue") d)
    ((text : List ℕ) × (v ≡ value.text text) × IsHeldText d text)
    (λ list. (xs : ArrayValue) × (v ≡ value.array xs) × IsArray list xs)

abbrev pub IsHeld : Data → AttributeValue → Type 0
IsHeld d v =
    MatchBool (has (codes "boolValue") d) ((b : Bool) × (v ≡ value.boolean b) × IsTruth d b)
    (MatchBool (has (codes "intValue") d) ((z : ℤ) × (v ≡ value.integer z) × IsWhole d z)
    (IsOther d v))

abbrev pub IsValue : Data → AttributeValue → Type 0
IsValue d v = IsObject d × IsHeld d v

-- an absent value is the empty text
abbrev pub IsValueIn : Data → AttributeValue → Type 0
IsValueIn d v =
    MatchOption (member_of (codes "value") d) (v ≡ value.text []) (λ given. IsValue given v)

-- ---- KeyValue
pub record IsAttribute (d : Data) (a : Attribute) : Type 0 where
  pub is_object : IsObject d
  pub key : text_in (codes "key") d ≡ Some a.0
  pub value : IsValueIn d a.1

abbrev pub HasAttributes : Data → List Attribute → Type 0
HasAttributes = AreIn IsAttribute (codes "attributes")

abbrev pub HasDropped : Data → ℕ → Type 0
HasDropped = IsNarrowIn (codes "droppedAttributesCount")
