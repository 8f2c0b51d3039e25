-- The attributes of pairs.
use Rattle.std.proofs.Common.{◌≡◌, inl, inr, ℕ, ℤ, pos, negsuc, List, [], ◌∷◌, ◌++◌, Option, Some, None, IfSome, option_map, refl, sym, subst, ◌∙◌, ap, rules}
use Rattle.std.specs.Option.{option_map_or}
use Rattle.std.specs.Fmt.{signed_decimal}
use Rattle.std.specs.List.{FoldsTo}
use Rattle.log.specs.declared.kv.value.Value.{Value}
use Rattle.log.specs.declared.kv.value.Value.TheVariants.{Null, I64, U64, I128, U128, F64, Str, Display}
use Rattle.log.specs.declared.kv.value.Value.TheVariants as value
use Rattle.log.specs.Kv.{value_text, value_i64, as_signed}
use Rattle.otel_base.specs.AnyValue.{integer, text, boolean}
use Rattle.otel_appender_log.specs.Value.{number_or_text}
use Rattle.std.proofs.lemmas.List.{map-append}
use Rattle.otel_base.specs.View.{tree, pairs_view}
use Rattle.otel_base.specs.declared.any_value.AnyValue.{AnyValue}
use Rattle.otel_appender_log.specs.Attributes.{Attribute, AddsValue, TakesPair, PrintsAs, with_value}

-- a fold of states is a fold of the views of the states
pub FoldsTo-view : {V W X : Type 0} (see : V → W) (R : W → X → W → Type 0) (a : V) (xs : List X) (b : V)
    → FoldsTo (λ p x q. R (see p) x (see q)) a xs b → FoldsTo R (see a) xs (see b)
FoldsTo-view see R a [] b h = ap see h
FoldsTo-view see R a (x ∷ xs) b h = (see h.0, h.1, FoldsTo-view see R h.0 xs b h.2)

-- an integer that fits is the same integer
as_signed-same : (k : ℕ) (z w : ℤ) → as_signed k z ≡ Some w → z ≡ w
as_signed-same k (pos n) w e = search rules
as_signed-same k (negsuc n) w e = search rules

module _ {D : Type 0} where
  -- the integer prints as the value does
  number_shows : (output : D → Option (List ℕ)) (v : Value D) (z : ℤ) (t : List ℕ) → value_i64 v ≡ Some z
      → value_text output v ≡ Some t → signed_decimal z ≡ t
  number_shows output (I64 n) z t e p = rw (← as_signed-same 63 n z e) (cc)
  number_shows output (U64 n) z t e p = rw (← as_signed-same 63 (pos n) z e) (cc)
  number_shows output (I128 n) z t e p = rw (← as_signed-same 63 n z e) (cc)
  number_shows output (U128 n) z t e p = rw (← as_signed-same 63 (pos n) z e) (cc)
  number_shows output v z t e p = cc

  shows_by : (output : D → Option (List ℕ)) (v : Value D) (t : List ℕ) (o : Option ℤ) → value_i64 v ≡ o
      → value_text output v ≡ Some t → PrintsAs (option_map_or integer o (text t)) t
  shows_by output v t None e p = refl
  shows_by output v t (Some z) e p = number_shows output v z t e p

  other_takes : (output : D → Option (List ℕ)) (v : Value D) (key : List ℕ) (before after : List Attribute)
      (printed : List ℕ) (o : Option (List ℕ)) → value_text output v ≡ o → IfSome o (λ t. printed ≡ t)
      → after ≡ before ++ (key, number_or_text v printed) ∷ [] → IfSome o (λ t. TakesPair before (key, t) after)
  other_takes output v key before after printed None e k a = tt
  other_takes output v key before after printed (Some t) e k a =
      let P : List ℕ → Type 0 = λ p. PrintsAs (number_or_text v p) t in
      inl (number_or_text v printed, subst P (sym k) (shows_by output v t (value_i64 v) refl e), a)

  -- the attribute added for a value whose text is known
  pub adds_takes : (output : D → Option (List ℕ)) (v : Value D) (key : List ℕ) (before after : List Attribute)
      → AddsValue output key v before after
      → IfSome (value_text output v) (λ t. TakesPair before (key, t) after)
  adds_takes output Null key before after a = inr (refl, a.2 ∙ rw a.1.2)
  adds_takes output (value.Bool b) key before after a = inl (boolean b, refl, a.2 ∙ rw a.1.2)
  adds_takes output (value.Char x) key before after a =
      other_takes output (value.Char x) key before after a.1.0 _ refl a.1.1 (a.2 ∙ rw a.1.2)
  adds_takes output (I64 x) key before after a =
      other_takes output (I64 x) key before after a.1.0 _ refl a.1.1 (a.2 ∙ rw a.1.2)
  adds_takes output (U64 x) key before after a =
      other_takes output (U64 x) key before after a.1.0 _ refl a.1.1 (a.2 ∙ rw a.1.2)
  adds_takes output (I128 x) key before after a =
      other_takes output (I128 x) key before after a.1.0 _ refl a.1.1 (a.2 ∙ rw a.1.2)
  adds_takes output (U128 x) key before after a =
      other_takes output (U128 x) key before after a.1.0 _ refl a.1.1 (a.2 ∙ rw a.1.2)
  adds_takes output (F64 x) key before after a =
      other_takes output (F64 x) key before after a.1.0 _ refl a.1.1 (a.2 ∙ rw a.1.2)
  adds_takes output (Str x) key before after a =
      other_takes output (Str x) key before after a.1.0 _ refl a.1.1 (a.2 ∙ rw a.1.2)
  adds_takes output (Display x) key before after a =
      other_takes output (Display x) key before after a.1.0 _ refl a.1.1 (a.2 ∙ rw a.1.2)

-- the result of a visit of known pairs
pub visited : {V W X : Type 0} (see : V → W) (R : W → X → W → Type 0) (o : Option (List X)) (a b : V) (w : W)
    → see a ≡ w → IfSome o (λ xs. FoldsTo (λ p x q. R (see p) x (see q)) a xs b)
    → IfSome o (λ xs. FoldsTo R w xs (see b))
visited see R None a b w e h = tt
visited see R (Some xs) a b w e h =
    let P : _ → Type 0 = λ s. FoldsTo R s xs (see b) in subst P e (FoldsTo-view see R a xs b h)

-- one more pair
pub pushed : (before after : List (List ℕ × AnyValue)) (key k : List ℕ) (v : AnyValue) (o : Option AnyValue)
    → o ≡ Some v → k ≡ key → after ≡ before ++ (k, v) ∷ []
    → pairs_view after ≡ with_value (pairs_view before) key (option_map tree o)
pushed before after key k v o e is a =
    rw (a, e, is) (map-append _ before _)
