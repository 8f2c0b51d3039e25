-- Lists and maps by the number of levels that are left.
use Rattle.std.proofs.Common.{◌≡◌, ℕ, zero, suc, ◌-◌, refl, sym, subst, ◌∙◌, Option, Some, None, arith}
use Rattle.std.specs.Prelude.{⊤}
use Rattle.otel_base.specs.AnyValue.{Tree}
use Rattle.otel_otlp.specs.ReadMembers.{IsObject}
use Rattle.otel_otlp.specs.ReadTrees.{IsTree, IsList, IsMap, IsListOf, IsMapBy}
use Rattle.serde_json.specs.Data.{Data}

abbrev Filled : {A : Type 0} → Option A → Type 0
Filled None = ⊥
Filled (Some x) = ⊤

pub not_both : {A : Type 0} (o : Option A) (x : A) → o ≡ None → o ≡ Some x → ⊥
not_both o x none some = subst Filled (sym some ∙ none) tt

pub list_object : (n : ℕ) (d : Data) (t : Tree) → IsList n d t → IsObject d
list_object zero d t h = h.0
list_object (suc n) d t h = h.0

pub map_object : (n : ℕ) (d : Data) (t : Tree) → IsMap n d t → IsObject d
map_object zero d t h = h.0
map_object (suc n) d t h = h.0

pub list_items : (n : ℕ) (d : Data) (t : Tree) → (n ≡ 0 → ⊥) → IsList n d t
    → IsListOf (IsTree (n - 1)) d t
list_items zero d t some h = absurd (some refl)
list_items (suc n) d t some h =
    let e : n ≡ suc n - 1 = omega arith in subst (λ m. IsListOf (IsTree m) d t) e h.1

pub map_pairs : (n : ℕ) (d : Data) (t : Tree) → (n ≡ 0 → ⊥) → IsMap n d t
    → IsMapBy (IsTree (n - 1)) d t
map_pairs zero d t some h = absurd (some refl)
map_pairs (suc n) d t some h =
    let e : n ≡ suc n - 1 = omega arith in subst (λ m. IsMapBy (IsTree m) d t) e h.1
