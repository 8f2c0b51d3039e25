-- Attributes that are set in turn.
use Rattle.std.proofs.Common.{add-zero, ◌≡◌, ℕ, ◌+◌, Bool, true, false, List, [], ◌∷◌, ◌++◌, map, Option, refl, sym, ap, ◌∙◌, arith}
use Rattle.std.specs.Prelude.{nat_lt, if◌then◌else◌}
use Rattle.std.proofs.lemmas.List.{map-append}
use Rattle.otel_base.specs.KeyValue.{Attribute}
use Rattle.otel_base.specs.View.{attribute_of}
use Rattle.otel_base.specs.declared.key_value.KeyValue.{KeyValue}
use Rattle.otel_sdk_base.specs.Attributes as spec
use Rattle.otel_sdk_base.specs.Attributes.{up_by}

set_all-more : (limit : ℕ) (xs ys : List Attribute) (a : Attribute)
    → spec.set_all limit xs (ys ++ a ∷ []) ≡ spec.set limit (spec.set_all limit xs ys) a
set_all-more limit xs [] a = refl
set_all-more limit xs (y ∷ ys) a = set_all-more limit (spec.set limit xs y) ys a

dropped-more : (limit : ℕ) (xs ys : List Attribute) (a : Attribute)
    → spec.dropped limit xs (ys ++ a ∷ [])
    ≡ spec.dropped limit xs ys + (if spec.keeps limit (spec.set_all limit xs ys) a then 0 else 1)
dropped-more limit xs [] a = omega arith
dropped-more limit xs (y ∷ ys) a = omega (arith, dropped-more limit (spec.set limit xs y) ys a)

up_by_step : (c m : ℕ) (b d : Bool) → nat_lt (c + m) 4294967296 ≡ b
    → nat_lt (c + m + 1) 4294967296 ≡ d → up_by (up_by c m) 1 ≡ up_by c (m + 1)
up_by_step c m b d p q = Prim.grind arith

pub up_by-more : (c m : ℕ) → up_by (up_by c m) 1 ≡ up_by c (m + 1)
up_by-more c m = up_by_step c m _ _ refl refl

module _ (limit : ℕ) (len : Option ℕ) (ys : List KeyValue) (y : KeyValue) where
  abbrev cut_before : List Attribute
  cut_before = map (spec.cut len) (map attribute_of ys)

  abbrev cut_next : Attribute
  cut_next = spec.cut len (attribute_of y)

  -- the given attributes up to y, truncated
  cut_all-more : map (spec.cut len) (map attribute_of (ys ++ y ∷ []))
      ≡ map (spec.cut len) (map attribute_of ys) ++ spec.cut len (attribute_of y) ∷ []
  cut_all-more =
      ap (map (spec.cut len)) (map-append attribute_of ys (y ∷ []))
      ∙ map-append (spec.cut len) (map attribute_of ys) (attribute_of y ∷ [])

  module _ (held : List Attribute) (a : Attribute)
      (before : held ≡ spec.set_all limit [] (map (spec.cut len) (map attribute_of ys)))
      (is : a ≡ spec.cut len (attribute_of y)) where
    pub set_next : (new : List Attribute) → new ≡ spec.set limit held a
        → new ≡ spec.set_all limit [] (map (spec.cut len) (map attribute_of (ys ++ y ∷ [])))
    set_next new set =
        rw (cut_all-more, set_all-more limit [] cut_before cut_next, ← is, ← before)
        set

    counted : (from count : ℕ) (kept : Bool) → kept ≡ spec.keeps limit held a
        → count ≡ up_by from (spec.dropped limit [] (map (spec.cut len) (map attribute_of ys)))
        → (if kept then count else up_by count 1)
        ≡ up_by from (spec.dropped limit [] cut_before + (if kept then 0 else 1))
    counted from count true k e = e ∙ ap (up_by from) (sym (add-zero _))
    counted from count false k e = ap (λ n. up_by n 1) e ∙ up_by-more from _

    pub count_next : (from count : ℕ) (kept : Bool) → kept ≡ spec.keeps limit held a
        → count ≡ up_by from (spec.dropped limit [] (map (spec.cut len) (map attribute_of ys)))
        → (if kept then count else up_by count 1)
        ≡ up_by from (spec.dropped limit [] (map (spec.cut len) (map attribute_of (ys ++ y ∷ []))))
    count_next from count kept k e =
        rw (cut_all-more, dropped-more limit [] cut_before cut_next, ← is, ← before, ← k)
        (counted from count kept k e)
