-- The values of key-value pairs as values of attributes.
use Rattle.std.specs.Prelude.{◌≡◌, ℕ, pos, List, Option, Some, None, IfSome, codes, true, refl}
use Rattle.std.specs.Option.{option_map_or}
use Rattle.log.specs.declared.kv.value.Value.{Value}
use Rattle.log.specs.declared.kv.value.Value.TheVariants.{Null, I64, U64}
use Rattle.log.specs.declared.kv.value.Value.TheVariants as value
use Rattle.log.specs.Kv.{value_text, value_i64}
use Rattle.otel_base.specs.AnyValue.{Tree, integer, text, boolean}

module _ {D : Type 0} where
  -- the integer if it fits an `i64`, otherwise the text written by `{}`
  abbrev pub number_or_text : Value D → List ℕ → Tree
  number_or_text v printed = option_map_or integer (value_i64 v) (text printed)

  -- null has no value, a `bool` is a boolean, an integer that fits an `i64` is an integer, and any
  -- other value is the text written by `{}`
  abbrev pub attribute_value : Value D → List ℕ → Option Tree
  attribute_value Null printed = None
  attribute_value (value.Bool b) printed = Some (boolean b)
  attribute_value v printed = Some (number_or_text v printed)

  -- `printed` is the text written by `{}` for the value, if that is known
  abbrev pub IsPrinted : (D → Option (List ℕ)) → Value D → List ℕ → Type 0
  IsPrinted output v printed = IfSome (value_text output v) (λ t. printed ≡ t)

  -- the attribute's value for a pair's value, for some text that `{}` writes
  abbrev pub IsAttributeValue : (D → Option (List ℕ)) → Value D → Option Tree → Type 0
  IsAttributeValue output v given =
      (printed : List ℕ) × IsPrinted output v printed × (given ≡ attribute_value v printed)

  -- the same for a value that isn't null and isn't a `bool`
  abbrev pub IsNumberOrText : (D → Option (List ℕ)) → Value D → Tree → Type 0
  IsNumberOrText output v given =
      (printed : List ℕ) × IsPrinted output v printed × (given ≡ number_or_text v printed)

-- ---- worked rows
greatest_i64 : attribute_value {D = ℕ} (U64 9223372036854775807) (codes "9223372036854775807")
    ≡ Some (integer (pos 9223372036854775807))
greatest_i64 = refl

above_i64 : attribute_value {D = ℕ} (U64 9223372036854775808) (codes "9223372036854775808")
    ≡ Some (text (codes "9223372036854775808"))
above_i64 = refl

null : attribute_value {D = ℕ} Null (codes "None") ≡ None
null = refl

character : attribute_value {D = ℕ} (value.Char 99) (codes "c") ≡ Some (text (codes "c"))
character = refl

truth : attribute_value {D = ℕ} (value.Bool true) (codes "true") ≡ Some (boolean true)
truth = refl
