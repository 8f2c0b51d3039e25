-- A value, level by level, and a `BTreeMap` with the entries that it represents.
use Rattle.std.proofs.Common.{◌≡◌, ℕ, List, [], ◌∷◌, ◌++◌, Vec, BTreeMap, Box, Global, Ordering}
use Rattle.std.proofs.Common.{Less, Equal, Greater, nat_cmp, Option, Some, None, option_map, cond}
use Rattle.std.proofs.Common.{Bool, true, false, refl, sym, ap, ◌∙◌, rules}
use Rattle.std.proofs.lemmas.Cmp.{nat_list_cmp_total}
use Rattle.std.specs.Cmp.Lexicographic.{slice_cmp}
use Rattle.std.specs.Option.{option_or}
use Rattle.std.specs.Str.{bytes_eq}
use Rattle.std.specs.List.{AllByRecursion}
use Rattle.std.specs.List.Sorted.{IsStrictlySortedBy}
use Rattle.std.specs.Map.{keys_of, lookup}
use Rattle.std.specs.Ordering.{match_ordering, ordering_reverse, is_eq}
use Rattle.std.specs.BTreeMap.{insert_entry, is_at}
use Rattle.otel_base.specs.AnyValue.{Tree, list, map, Entries, no_entries, more_entries, entry_at}
use Rattle.otel_base.specs.AnyValue.{keys_of_entries, last_at}
use Rattle.otel_base.specs.View.{tree, trees_view, entries_view, pairs_view}
use Rattle.otel_base.specs.declared.any_value.AnyValue.{AnyValue, ListAny, Map, the_lemmas}

abbrev pub Entry : Type 0
Entry = List ℕ × AnyValue

-- the entries, with d at k
abbrev pub put : List ℕ → Tree → Entries → Entries
put k d no_entries = more_entries k d no_entries
put k d (more_entries l e es) =
    match_ordering (slice_cmp nat_cmp k l) (more_entries k d (more_entries l e es))
    (more_entries l d es) (more_entries l e (put k d es))

pub tree-ListAny : (v : Box (Vec AnyValue Global) Global)
    → tree (ListAny v) ≡ list (trees_view v.value.items)
tree-ListAny v = search (rules, the_lemmas)

pub tree-Map : (m : Box (BTreeMap (List ℕ) AnyValue) Global)
    → tree (Map m) ≡ map (entries_view m.value.entries)
tree-Map m = search (rules, the_lemmas)

entries_view-match_ordering : (o : Ordering) (a b c : List Entry)
    → entries_view (match_ordering o a b c)
    ≡ match_ordering o (entries_view a) (entries_view b) (entries_view c)
entries_view-match_ordering Less a b c = refl
entries_view-match_ordering Equal a b c = refl
entries_view-match_ordering Greater a b c = refl

pub entries_view-insert_entry : (es : List Entry) (k : List ℕ) (v : AnyValue)
    → entries_view (insert_entry (slice_cmp nat_cmp) es k v) ≡ put k (tree v) (entries_view es)
entries_view-insert_entry [] k v = refl
entries_view-insert_entry (e ∷ es) k v =
    entries_view-match_ordering (slice_cmp nat_cmp k e.0) _ _ _
    ∙ rw (entries_view-insert_entry es k v)

below_middle : (first : Entry) (es : List Entry) (e : Entry) (more : List Entry)
    → AllByRecursion (λ y. slice_cmp nat_cmp first.0 y ≡ Less) (keys_of (es ++ e ∷ more))
    → slice_cmp nat_cmp first.0 e.0 ≡ Less
below_middle first [] e more h = h.0
below_middle first (x ∷ es) e more h = below_middle first es e more h.1

-- a key that is greater than the earlier keys is inserted last
pub put_last : (done : List Entry) (e : Entry) (more : List Entry)
    → IsStrictlySortedBy (slice_cmp nat_cmp) (keys_of (done ++ e ∷ more))
    → put e.0 (tree e.1) (entries_view done) ≡ entries_view (done ++ e ∷ [])
unfolding IsStrictlySortedBy
put_last [] e more h = refl
put_last (first ∷ done) e more h =
    let above : slice_cmp nat_cmp e.0 first.0 ≡ Greater =
    nat_list_cmp_total.antisymm e.0 first.0
    ∙ ap ordering_reverse (below_middle first done e more h.0) in
    rw above (ap (more_entries first.0 (tree first.1)) (put_last done e more h.1))

found_or : (o : Ordering) (v : AnyValue) (rest : Option AnyValue) (d : Option Tree)
    → option_map tree rest ≡ d
    → option_map tree (cond (is_eq o) (Some v) rest) ≡ match_ordering o d (Some (tree v)) d
found_or Less v rest d e = e
found_or Equal v rest d e = refl
found_or Greater v rest d e = e

pub view-lookup : (k : List ℕ) (es : List Entry)
    → option_map tree (lookup (is_at (slice_cmp nat_cmp k)) es) ≡ entry_at k (entries_view es)
view-lookup k [] = refl
view-lookup k (e ∷ es) = found_or (slice_cmp nat_cmp k e.0) e.1 _ _ (view-lookup k es)

pub keys_of_entries-view : (es : List Entry) → keys_of_entries (entries_view es) ≡ keys_of es
keys_of_entries-view [] = refl
keys_of_entries-view (e ∷ es) = ap (λ ks. e.0 ∷ ks) (keys_of_entries-view es)

option_or_assoc : (a b c : Option Tree) → option_or a (option_or b c) ≡ option_or (option_or a b) c
option_or_assoc None b c = refl
option_or_assoc (Some x) b c = refl

or_cond : (b : Bool) (x : Tree) (o : Option Tree)
    → option_or (cond b (Some x) None) o ≡ cond b (Some x) o
or_cond true x o = refl
or_cond false x o = refl

-- one more pair
pub last_at-push : (k : List ℕ) (ps : List Entry) (p : Entry)
    → last_at k (pairs_view (ps ++ p ∷ []))
    ≡ cond (bytes_eq p.0 k) (Some (tree p.1)) (last_at k (pairs_view ps))
last_at-push k [] p = refl
last_at-push k (x ∷ ps) p =
    ap (λ o. option_or o (cond (bytes_eq x.0 k) (Some (tree x.1)) None)) (last_at-push k ps p
    ∙ sym (or_cond (bytes_eq p.0 k) (tree p.1) (last_at k (pairs_view ps))))
    ∙ sym (option_or_assoc (cond (bytes_eq p.0 k) (Some (tree p.1)) None)
    (last_at k (pairs_view ps)) (cond (bytes_eq x.0 k) (Some (tree x.1)) None))
    ∙ or_cond (bytes_eq p.0 k) (tree p.1) _

pub option_map-cond : (b : Bool) (x : AnyValue) (o : Option AnyValue)
    → option_map tree (cond b (Some x) o) ≡ cond b (Some (tree x)) (option_map tree o)
option_map-cond true x o = refl
option_map-cond false x o = refl
