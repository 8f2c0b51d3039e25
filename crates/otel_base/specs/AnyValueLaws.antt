-- `eq` decides whether two trees are equal.
use Rattle.std.specs.Prelude.{◌≡◌, nat_eq, ◌&&◌}
use Rattle.std.specs.Bool.{Decides}
use Rattle.std.specs.Cmp.{IsEquivalence, booleans_Decides, signed_Decides}
use Rattle.std.specs.Cmp.Lexicographic.{pointwise}
use Rattle.std.proofs.Common.{refl, ap, sym, true≢false}
use Rattle.std.proofs.lemmas.Bool.Decides.{Decides-and}
use Rattle.otel_base.specs.KeyValueLaws.{texts_Decides, equiv_from_decides}
use Rattle.otel_base.specs.AnyValue.{Tree, integer, text, boolean, bytes, list, map, Trees}
use Rattle.otel_base.specs.AnyValue.{no_trees, more_trees, Entries, no_entries, more_entries, eq}
use Rattle.otel_base.specs.AnyValue.{trees_eq, entries_eq}

mutual
  -- the tests of trees, of lists and of entries
  pub eq-Decides : (a b : Tree) → Decides (eq a b) (a ≡ b)
  eq-Decides (integer x) (integer y) =
      (λ h. ap integer ((signed_Decides x y).0 h), λ e. (signed_Decides x y).1 cc)
  eq-Decides (text x) (text y) =
      (λ h. ap text ((texts_Decides x y).0 h), λ e. (texts_Decides x y).1 cc)
  eq-Decides (boolean x) (boolean y) =
      (λ h. ap boolean ((booleans_Decides x y).0 h), λ e. (booleans_Decides x y).1 cc)
  eq-Decides (bytes x) (bytes y) =
      (λ h. ap bytes ((texts_Decides x y).0 h), λ e. (texts_Decides x y).1 cc)
  eq-Decides (list x) (list y) =
      (λ h. ap list ((trees_eq-Decides x y).0 h), λ e. (trees_eq-Decides x y).1 cc)
  eq-Decides (map x) (map y) =
      (λ h. ap map ((entries_eq-Decides x y).0 h), λ e. (entries_eq-Decides x y).1 cc)
  eq-Decides _ _ = (λ h. absurd (true≢false (sym h)), λ e. cc)

  pub trees_eq-Decides : (a b : Trees) → Decides (trees_eq a b) (a ≡ b)
  trees_eq-Decides no_trees no_trees = (λ h. refl, λ e. refl)
  trees_eq-Decides (more_trees x xs) (more_trees y ys) =
      let d = Decides-and (eq x y) (trees_eq xs ys) (eq-Decides x y) (trees_eq-Decides xs ys) in
      (λ h. let p = d.0 h in λ i. more_trees (p.0 i) (p.1 i), λ e. d.1 (cc, cc))
  trees_eq-Decides _ _ = (λ h. absurd (true≢false (sym h)), λ e. cc)

  pub entries_eq-Decides : (a b : Entries) → Decides (entries_eq a b) (a ≡ b)
  entries_eq-Decides no_entries no_entries = (λ h. refl, λ e. refl)
  entries_eq-Decides (more_entries j x xs) (more_entries k y ys) =
      let d = Decides-and (pointwise nat_eq j k
      && eq x y) (entries_eq xs ys)
      (Decides-and (pointwise nat_eq j k) (eq x y) (texts_Decides j k) (eq-Decides x y))
      (entries_eq-Decides xs ys) in
      (λ h. let p = d.0 h in λ i. more_entries (p.0.0 i) (p.0.1 i) (p.1 i), λ e. d.1 ((cc, cc), cc))
  entries_eq-Decides _ _ = (λ h. absurd (true≢false (sym h)), λ e. cc)

-- equality of trees is an equivalence relation: the law of `PartialEq`
pub eq-equiv : IsEquivalence eq
eq-equiv = equiv_from_decides eq eq-Decides
