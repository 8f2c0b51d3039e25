-- The trees at the keys determine a map's tree.
use Rattle.std.proofs.Common.{◌≡◌, ℕ, List, [], ◌∷◌, ◌&&◌, cond, T, Option, Some}
use Rattle.std.proofs.Common.{nat_cmp, refl, sym, ap, ◌∙◌, subst}
use Rattle.std.specs.Cmp.Lexicographic.{slice_cmp}
use Rattle.std.specs.List.{AllByRecursion}
use Rattle.std.specs.List.Sorted.{IsStrictlySortedBy}
use Rattle.std.specs.Ordering.{is_eq, is_lt, match_ordering}
use Rattle.std.specs.declared.cmp.Ordering.{Ordering}
use Rattle.std.specs.declared.cmp.Ordering.TheVariants.{Less, Equal, Greater}
use Rattle.std.specs.FinMap.Entries.{find, is_sorted, below_all, same_entries}
use Rattle.std.proofs.Math.Facts.{yes_and}
use Rattle.std.proofs.lemmas.Cmp.{nat_list_cmp_total}
use Rattle.std.proofs.lemmas.Map.Lookups.{exact_bytes}
use Rattle.otel_base.specs.AnyValue.{Tree, Entries, no_entries, more_entries, map, entry_at}
use Rattle.otel_base.specs.AnyValue.{keys_of_entries}
use Rattle.otel_base.specs.View.{entries_of}
use Rattle.otel_base.specs.Laws.{SameMap}

abbrev by_bytes : List ℕ → List ℕ → Ordering
by_bytes = slice_cmp nat_cmp

abbrev listed : Entries → List (List ℕ × Tree)
listed no_entries = []
listed (more_entries k e es) = (k, e) ∷ listed es

relisted : (es : Entries) → entries_of (listed es) ≡ es
relisted no_entries = refl
relisted (more_entries k e es) = ap (more_entries k e) (relisted es)

by_cases : (o : Ordering) (a b : Option Tree) → match_ordering o a b a ≡ cond (is_eq o) b a
by_cases Less a b = refl
by_cases Equal a b = refl
by_cases Greater a b = refl

found : (k : List ℕ) (es : Entries) → entry_at k es ≡ find by_bytes k (listed es)
found k no_entries = refl
found k (more_entries l e es) =
    by_cases (by_bytes k l) (entry_at k es) (Some e)
    ∙ ap (cond (is_eq (by_bytes k l)) (Some e)) (found k es)

below : (k : List ℕ) (es : Entries) → AllByRecursion (λ l. by_bytes k l ≡ Less) (keys_of_entries es)
    → T (below_all by_bytes k (listed es))
below k no_entries h = tt
below k (more_entries l e es) h =
    subst (λ o. T (is_lt o && below_all by_bytes k (listed es))) (sym h.0) (below k es h.1)

rising : (es : Entries) → IsStrictlySortedBy by_bytes (keys_of_entries es)
    → T (is_sorted by_bytes (listed es))
unfolding IsStrictlySortedBy
rising no_entries h = tt
rising (more_entries l e es) h = yes_and _ _ (below l es h.0) (rising es h.1)

pub same_map : SameMap
same_map ps qs s t m n agree =
    let is : (k : List ℕ)
    → find by_bytes k (listed m.entries) ≡ find by_bytes k (listed n.entries) =
    λ q. sym (found q m.entries) ∙ m.last_wins q ∙ agree q ∙ sym (n.last_wins q)
    ∙ found q n.entries in
    let listings : listed m.entries ≡ listed n.entries =
    same_entries by_bytes nat_list_cmp_total exact_bytes (listed m.entries) (listed n.entries)
    (rising _ m.rising) (rising _ n.rising) is in
    m.is ∙ ap map (sym (relisted m.entries) ∙ ap entries_of listings ∙ relisted n.entries)
    ∙ sym n.is
