-- The equalities of arrays, values and attributes decide whether their meanings are the same.
use Rattle.std.specs.Prelude.{◌≡◌, ℕ, List, Bool, nat_eq}
use Rattle.std.specs.Bool.{Decides}
use Rattle.std.specs.Cmp.{IsEquivalence, booleans_Decides, signed_Decides}
use Rattle.std.specs.Cmp.Lexicographic.{pointwise}
use Rattle.std.proofs.Common.{refl, ap, sym, true≢false}
use Rattle.std.proofs.lemmas.Bool.Decides.{Decides-eqb, Decides-and, same_from_decides}
use Rattle.std.proofs.lemmas.Slice.Eq.{slice_eq-Decides}
use Rattle.otel_base.specs.Array as Array
use Rattle.otel_base.specs.Array.{ArrayValue, booleans, integers, texts}
use Rattle.otel_base.specs.Value as Value
use Rattle.otel_base.specs.Value.{AttributeValue, boolean, integer, text, array}
use Rattle.otel_base.specs.KeyValue as KeyValue
use Rattle.otel_base.specs.KeyValue.{Attribute}

-- equality of texts
pub texts_Decides : (xs ys : List ℕ) → Decides (pointwise nat_eq xs ys) (xs ≡ ys)
texts_Decides xs ys = slice_eq-Decides Decides-eqb xs ys _ refl

-- the test of arrays
pub array_eq-Decides : (a b : ArrayValue) → Decides (Array.eq a b) (a ≡ b)
array_eq-Decides (booleans x) (booleans y) = let d =
    slice_eq-Decides booleans_Decides x y _ refl in (λ h. ap booleans (d.0 h), λ e. d.1 (cc))
array_eq-Decides (integers x) (integers y) = let d =
    slice_eq-Decides signed_Decides x y _ refl in (λ h. ap integers (d.0 h), λ e. d.1 (cc))
array_eq-Decides (texts x) (texts y) = let d =
    slice_eq-Decides texts_Decides x y _ refl in (λ h. ap texts (d.0 h), λ e. d.1 (cc))
array_eq-Decides _ _ = (λ h. absurd (true≢false (sym h)), λ e. cc)

-- the test of values
pub value_eq-Decides : (a b : AttributeValue) → Decides (Value.eq a b) (a ≡ b)
value_eq-Decides (boolean x) (boolean y) =
    (λ h. ap boolean ((booleans_Decides x y).0 h), λ e. (booleans_Decides x y).1 (cc))
value_eq-Decides (integer x) (integer y) =
    (λ h. ap integer ((signed_Decides x y).0 h), λ e. (signed_Decides x y).1 (cc))
value_eq-Decides (text x) (text y) =
    (λ h. ap text ((texts_Decides x y).0 h), λ e. (texts_Decides x y).1 (cc))
value_eq-Decides (array x) (array y) =
    (λ h. ap array ((array_eq-Decides x y).0 h), λ e. (array_eq-Decides x y).1 (cc))
value_eq-Decides _ _ = (λ h. absurd (true≢false (sym h)), λ e. cc)

-- the test of attributes
pub attribute_eq-Decides : (p q : Attribute) → Decides (KeyValue.eq p q) (p ≡ q)
attribute_eq-Decides p q =
    let d = Decides-and (pointwise nat_eq p.0 q.0) (Value.eq p.1 q.1) (texts_Decides p.0 q.0)
    (value_eq-Decides p.1 q.1) in
    (λ h. let e = d.0 h in λ i. (e.0 i, e.1 i), λ e. d.1 (ap (λ r. r.0) e, ap (λ r. r.1) e))

-- a test that decides `≡` is an equivalence relation
pub equiv_from_decides : {K : Type 0} (eq : K → K → Bool) → ((a b : K) → Decides (eq a b) (a ≡ b))
    → IsEquivalence eq
equiv_from_decides eq d = record {
  refl = λ x. (d x x).1 refl;
  symm = λ x y. same_from_decides (eq x y) (eq y x) (d x y) (
    λ h. sym ((d y x).0 h),
    λ e. (d y x).1 (sym e),
  );
  congr = λ x y z h. ap (λ w. eq w z) ((d x y).0 h);
}
