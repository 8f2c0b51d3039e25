-- The cases of `attribute_value`.
use Rattle.std.proofs.Common.{◌≡◌, ℕ, ℤ, List, [], Option, Some, None, IfSome, codes, Bool, refl, sym, subst}
use Rattle.std.specs.Option.{option_map_or}
use Rattle.log.specs.declared.kv.value.Value.{Value}
use Rattle.log.specs.declared.kv.value.Value.TheVariants.{Null, I64, U64, I128, U128, F64, Str, Display}
use Rattle.log.specs.declared.kv.value.Value.TheVariants as value
use Rattle.log.specs.Kv.{value_text, value_i64, bool_text}
use Rattle.otel_base.specs.AnyValue.{Tree, integer, text, boolean}
use Rattle.otel_appender_log.specs.Value.{IsAttributeValue, IsNumberOrText}

-- a known text may have been printed, and so may any text if none is known
pub some_printed : (o : Option (List ℕ)) → (p : List ℕ) × IfSome o (λ t. p ≡ t)
some_printed None = ([], tt)
some_printed (Some t) = (t, refl)

module _ {D : Type 0} where
  pub null_value : (output : D → Option (List ℕ)) (v : Value D) → v ≡ Null → IsAttributeValue output v None
  null_value output v e =
      let P : Value D → Type 0 = λ w. IsAttributeValue output w None in
      subst P (sym e) (codes "None", refl, refl)

  pub bool_value : (output : D → Option (List ℕ)) (v : Value D) (b : Bool) (t : Tree) → v ≡ value.Bool b
      → t ≡ boolean b → IsAttributeValue output v (Some t)
  bool_value output v b t e is =
      let P : Value D → Type 0 = λ w. IsAttributeValue output w (Some t) in
      subst P (sym e) (bool_text b, refl, rw is)

  pub number_value : (output : D → Option (List ℕ)) (v : Value D) (z : ℤ) (t : Tree) → Some z ≡ value_i64 v
      → t ≡ integer z → IsNumberOrText output v t
  number_value output v z t e is =
      let p = some_printed (value_text output v) in
      let same : t ≡ option_map_or integer (Some z) (text p.0) = is in
      let P : Option ℤ → Type 0 = λ o. t ≡ option_map_or integer o (text p.0) in
      (p.0, p.1, subst P e same)

  pub other_value : (output : D → Option (List ℕ)) (v : Value D) (t : Tree) → (v ≡ Null → ⊥)
      → ((b : Bool) → v ≡ value.Bool b → ⊥) → IsNumberOrText output v t → IsAttributeValue output v (Some t)
  other_value output Null t n b h = absurd (n refl)
  other_value output (value.Bool x) t n b h = absurd (b x refl)
  other_value output (value.Char x) t n b h = (h.0, h.1, rw h.2)
  other_value output (I64 x) t n b h = (h.0, h.1, rw h.2)
  other_value output (U64 x) t n b h = (h.0, h.1, rw h.2)
  other_value output (I128 x) t n b h = (h.0, h.1, rw h.2)
  other_value output (U128 x) t n b h = (h.0, h.1, rw h.2)
  other_value output (F64 x) t n b h = (h.0, h.1, rw h.2)
  other_value output (Str x) t n b h = (h.0, h.1, rw h.2)
  other_value output (Display x) t n b h = (h.0, h.1, rw h.2)
