-- The pairs of a map make that map, and no other.
use Rattle.std.proofs.Common.{◌≡◌, ℕ, List, [], ◌∷◌, Bool, if◌then◌else◌}
use Rattle.std.proofs.Common.{Option, Some, None, nat_cmp, bytes_eq, refl, sym, ap, ◌∙◌, subst}
use Rattle.std.specs.Cmp.Lexicographic.{slice_cmp, nat_list_eq_equiv}
use Rattle.std.specs.List.{AllByRecursion}
use Rattle.std.specs.List.Sorted.{IsStrictlySortedBy}
use Rattle.std.specs.Option.{option_or}
use Rattle.std.specs.Ordering.{is_eq, match_ordering}
use Rattle.std.specs.declared.cmp.Ordering.{Ordering}
use Rattle.std.specs.declared.cmp.Ordering.TheVariants.{Less, Equal, Greater}
use Rattle.std.proofs.lemmas.Map.Lookups.{exact_bytes}
use Rattle.std.proofs.lemmas.Map.Text.{is_eq-slice_cmp}
use Rattle.otel_base.specs.AnyValue as any
use Rattle.otel_base.specs.AnyValue.{Tree, Entries, no_entries, more_entries, entry_at, keys_of_entries, last_at, IsMapOf}
use Rattle.otel_base.specs.View.{entries_of}

abbrev pub by_bytes : List ℕ → List ℕ → Ordering
by_bytes = slice_cmp nat_cmp

abbrev pub Rises : Entries → Type 0
Rises es = IsStrictlySortedBy by_bytes (keys_of_entries es)

abbrev pub pairs_of : Entries → List (List ℕ × Tree)
pairs_of no_entries = []
pairs_of (more_entries k t es) = (k, t) ∷ pairs_of es

entries_again : (es : Entries) → entries_of (pairs_of es) ≡ es
entries_again no_entries = refl
entries_again (more_entries k t es) = ap (more_entries k t) (entries_again es)

-- ---- the tree at a key is the one of the last pair with it
abbrev Above : List ℕ → Entries → Type 0
Above k es = AllByRecursion (λ l. by_bytes k l ≡ Less) (keys_of_entries es)

-- keys are equal if they compare as equal
same_test : (k l : List ℕ) (o : Ordering) → by_bytes k l ≡ o → bytes_eq l k ≡ is_eq o
same_test k l o e = nat_list_eq_equiv.symm l k ∙ sym (is_eq-slice_cmp k l) ∙ ap is_eq e

none_above : (k : List ℕ) (es : Entries) → Above k es → last_at k (pairs_of es) ≡ None
none_above k no_entries h = refl
none_above k (more_entries l t es) h =
    ap (λ o. option_or o (if bytes_eq l k then Some t else None)) (none_above k es h.1)
    ∙ ap (λ (b : Bool). if b then Some t else None) (same_test k l Less h.0)

or_none : (o : Option Tree) → option_or o None ≡ o
or_none None = refl
or_none (Some t) = refl

last_by : (k l : List ℕ) (t : Tree) (es : Entries) (o : Ordering) → by_bytes k l ≡ o → Above l es
    → entry_at k es ≡ last_at k (pairs_of es)
    → match_ordering o (entry_at k es) (Some t) (entry_at k es)
    ≡ option_or (last_at k (pairs_of es)) (if is_eq o then Some t else None)
last_by k l t es Less e above same = same ∙ sym (or_none (last_at k (pairs_of es)))
last_by k l t es Equal e above same =
    let none = none_above k es (subst (λ q. Above q es) (sym (exact_bytes k l e)) above) in
    ap (λ o. option_or o (Some t)) (sym none)
last_by k l t es Greater e above same = same ∙ sym (or_none (last_at k (pairs_of es)))

last_in : (k : List ℕ) (es : Entries) → Rises es → entry_at k es ≡ last_at k (pairs_of es)
unfolding IsStrictlySortedBy
last_in k no_entries h = refl
last_in k (more_entries l t es) h =
    last_by k l t es (by_bytes k l) refl h.0 (last_in k es h.1)
    ∙ ap (λ (b : Bool). option_or (last_at k (pairs_of es)) (if b then Some t else None))
    (sym (same_test k l (by_bytes k l) refl))

pub is_map : (es : Entries) → Rises es → IsMapOf (pairs_of es) (any.map es)
is_map es h = record { entries = es; is = refl; rising = h; last_wins = λ k. last_in k es h }
