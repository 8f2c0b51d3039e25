-- Lists of places whose numbers ascend, and the finite map of their slots.
use Rattle.std.proofs.Common.{◌≡◌, ℕ, zero, suc, ◌+◌, ◌-◌, ◌<◌, ◌≤◌, List, [], ◌∷◌, ◌++◌, length, get_or, Option, Some, None, Result, Ok, Err, Bool, cond, true, false, is_some, refl, sym, ap, subst, ◌∙◌, length-append, append-nil, arith, inl, inr, get_or-set_same, lt-length-set}
use Rattle.std.specs.Prelude.{slice_set}
use Rattle.std.specs.List.{filter}
use Rattle.std.specs.Ordering.{nat_cmp, eq_by_cmp, ordering_index}
use Rattle.std.specs.Result.{result_ok}
use Rattle.std.specs.List.Sorted.{IsSearchInRange, IsBinarySearchResult, IsNonDecreasingBy}
use Rattle.std.proofs.lemmas.Cmp.{ranked}
use Rattle.std.proofs.lemmas.Bool.Decides.{nat_tests}
use Rattle.std.specs.Cmp.{nat_cmp_total, unsigned_tied}
use Rattle.std.specs.FinMap as map
use Rattle.std.proofs.lemmas.Bool.{ne_eqb, eq-eqb, cases_Bool, cases_lt, true≢false}
use Rattle.otel_context.specs.SpanPlaces.{IsIndexOf, Finds, KeepsPlaces, MovesTo, TakesOut}
use Rattle.otel_context.specs.View.{with_entry, entries_of, map_of, IsAscending}
use Rattle.otel_context.specs.declared.span.spans.places.Place.{Place}
use Rattle.otel_context.proofs.shared.SpansLemmas.{same_by_cmp}

-- the order of numbers tells different ones apart, and equal ones not
pub told_apart : (q n : ℕ) → (q ≡ n → ⊥) → eq_by_cmp nat_cmp q n ≡ false
told_apart q n ne = unsigned_tied q n ∙ ne_eqb q n ne

pub not_told_apart : (n : ℕ) → eq_by_cmp nat_cmp n n ≡ true
not_told_apart n = unsigned_tied n n ∙ eq-eqb n n refl

higher : (a b q : ℕ) → a ≤ b → ordering_index (nat_cmp a q) ≤ ordering_index (nat_cmp b q)
higher a b q le = grind (arith, nat_tests)

find-other : (q n : ℕ) (o : Option ℕ) (es : List (ℕ × ℕ)) → (q ≡ n → ⊥) → map.find nat_cmp q (with_entry n o es) ≡ map.find nat_cmp q es
find-other q n None es ne = refl
find-other q n (Some x) es ne = ap (λ b. cond b (Some x) (map.find nat_cmp q es)) (told_apart q n ne)

find-same : (n : ℕ) (o : Option ℕ) (es : List (ℕ × ℕ)) → map.find nat_cmp n es ≡ None → map.find nat_cmp n (with_entry n o es) ≡ o
find-same n None es absent = absent
find-same n (Some x) es absent = ap (λ b. cond b (Some x) (map.find nat_cmp n es)) (not_told_apart n)

find-behind : (q n : ℕ) (o : Option ℕ) (es fs : List (ℕ × ℕ)) → map.find nat_cmp q es ≡ map.find nat_cmp q fs
    → map.find nat_cmp q (with_entry n o es) ≡ map.find nat_cmp q (with_entry n o fs)
find-behind q n None es fs e = e
find-behind q n (Some x) es fs e = ap (cond (eq_by_cmp nat_cmp q n) (Some x)) e

-- the first number is at most the next one, and may be lowered
pub first_at_most : (first next : ℕ) (ss : List Place) → IsAscending first ss next → first ≤ next
first_at_most first next [] a = a
first_at_most first next (s ∷ ss) a = omega (arith, a.0, first_at_most (s.number + 1) next ss a.1)

lowered : (low first next : ℕ) (ss : List Place) → low ≤ first → IsAscending first ss next → IsAscending low ss next
lowered low first next [] l a = omega (arith, l, a)
lowered low first next (s ∷ ss) l a = (omega (arith, l, a.0), a.1)

-- the number at an index is at least that far above the first one, and below the next one
pub at_least : (first next i : ℕ) (ss : List Place) (d : Place) → IsAscending first ss next → i < length ss → first + i ≤ (get_or ss i d).number
at_least first next i [] d a l = absurd (omega (arith, l))
at_least first next zero (s ∷ ss) d a l = omega (arith, a.0)
at_least first next (suc i) (s ∷ ss) d a l = omega (arith, a.0, at_least (s.number + 1) next i ss d a.1 (omega (arith, l)))

pub below_next : (first next i : ℕ) (ss : List Place) (d : Place) → IsAscending first ss next → i < length ss → (get_or ss i d).number < next
below_next first next i [] d a l = absurd (omega (arith, l))
below_next first next zero (s ∷ ss) d a l = omega (arith, first_at_most (s.number + 1) next ss a.1)
below_next first next (suc i) (s ∷ ss) d a l = below_next (s.number + 1) next i ss d a.1 (omega (arith, l))

-- numbers rise
pub rises : (first next i j : ℕ) (ss : List Place) (d e : Place) → IsAscending first ss next → i ≤ j → j < length ss → (get_or ss i d).number ≤ (get_or ss j e).number
rises first next i j [] d e a h l = absurd (omega (arith, l))
rises first next zero zero (s ∷ ss) d e a h l = omega arith
rises first next (suc i) zero (s ∷ ss) d e a h l = absurd (omega (arith, h))
rises first next zero (suc j) (s ∷ ss) d e a h l = omega (arith, at_least (s.number + 1) next j ss e a.1 (omega (arith, l)))
rises first next (suc i) (suc j) (s ∷ ss) d e a h l = rises (s.number + 1) next i j ss d e a.1 (omega (arith, h)) (omega (arith, l))

-- a number that no place has finds nothing
pub absent : (q : ℕ) (ss : List Place) → ((k : ℕ) (d : Place) → k < length ss → (get_or ss k d).number ≡ q → ⊥) → map.find nat_cmp q (entries_of ss) ≡ None
absent q [] h = refl
absent q (s ∷ ss) h =
    find-other q s.number s.slot (entries_of ss) (λ e. h zero s (omega arith) (sym e))
    ∙ absent q ss (λ k d l. h (suc k) d (omega (arith, l)))

absent_below : (q first next : ℕ) (ss : List Place) → IsAscending first ss next → q < first → map.find nat_cmp q (entries_of ss) ≡ None
absent_below q first next ss a h = absent q ss (λ k d l e. absurd (omega (arith, h, e, at_least first next k ss d a l)))

pub absent_above : (q first next : ℕ) (ss : List Place) → IsAscending first ss next → next ≤ q → map.find nat_cmp q (entries_of ss) ≡ None
absent_above q first next ss a h = absent q ss (λ k d l e. absurd (omega (arith, h, e, below_next first next k ss d a l)))

-- the number of a place finds its slot
pub found : (first next i : ℕ) (ss : List Place) (d : Place) → IsAscending first ss next → i < length ss
    → map.find nat_cmp (get_or ss i d).number (entries_of ss) ≡ (get_or ss i d).slot
found first next i [] d a l = absurd (omega (arith, l))
found first next zero (s ∷ ss) d a l = find-same s.number s.slot (entries_of ss) (absent_below s.number (s.number + 1) next ss a.1 (omega arith))
found first next (suc i) (s ∷ ss) d a l =
    find-other (get_or ss i d).number s.number s.slot (entries_of ss) (λ e. absurd (omega (arith, e, at_least (s.number + 1) next i ss d a.1 (omega (arith, l)))))
    ∙ found (s.number + 1) next i ss d a.1 (omega (arith, l))

-- writing another slot into a place
pub set-ascends : (first next i : ℕ) (ss : List Place) (d w : Place) → i < length ss → w.number ≡ (get_or ss i d).number → IsAscending first ss next → IsAscending first (slice_set ss i w) next
set-ascends first next i [] d w l e a = absurd (omega (arith, l))
set-ascends first next zero (s ∷ ss) d w l e a = rw e a
set-ascends first next (suc i) (s ∷ ss) d w l e a = (a.0, set-ascends (s.number + 1) next i ss d w (omega (arith, l)) e a.1)

set-other : (q i : ℕ) (ss : List Place) (d w : Place) → i < length ss → w.number ≡ (get_or ss i d).number → (q ≡ w.number → ⊥)
    → map.find nat_cmp q (entries_of (slice_set ss i w)) ≡ map.find nat_cmp q (entries_of ss)
set-other q i [] d w l e ne = absurd (omega (arith, l))
set-other q zero (s ∷ ss) d w l e ne =
    find-other q w.number w.slot (entries_of ss) ne ∙ sym (find-other q s.number s.slot (entries_of ss) (λ f. ne (f ∙ sym e)))
set-other q (suc i) (s ∷ ss) d w l e ne =
    find-behind q s.number s.slot (entries_of (slice_set ss i w)) (entries_of ss) (set-other q i ss d w (omega (arith, l)) e ne)

-- a place with a higher number behind the others
pub push-ascends : (first n : ℕ) (o : Option ℕ) (ss : List Place) → IsAscending first ss n → IsAscending first (ss ++ record { number = n; slot = o } ∷ []) (n + 1)
push-ascends first n o [] a = (a, omega arith)
push-ascends first n o (s ∷ ss) a = (a.0, push-ascends (s.number + 1) n o ss a.1)

with_entry-append : (n : ℕ) (o : Option ℕ) (es fs : List (ℕ × ℕ)) {gs : List (ℕ × ℕ)} → gs ≡ es ++ fs → with_entry n o gs ≡ with_entry n o es ++ fs
with_entry-append n None es fs e = e
with_entry-append n (Some x) es fs e = ap (λ l. (n, x) ∷ l) e

pub push-entries : (n : ℕ) (x : ℕ) (ss : List Place) → entries_of (ss ++ record { number = n; slot = Some x } ∷ []) ≡ entries_of ss ++ (n, x) ∷ []
push-entries n x [] = refl
push-entries n x (s ∷ ss) = with_entry-append s.number s.slot (entries_of ss) ((n, x) ∷ []) (push-entries n x ss)

-- the places with a slot
live-step : (s : Place) (o : Option ℕ) → s.slot ≡ o → (ss rest : List Place) → entries_of rest ≡ entries_of ss → entries_of (cond (is_some s.slot) (s ∷ rest) rest) ≡ entries_of (s ∷ ss)
live-step s None e ss rest h =
    ap (λ p. entries_of (cond (is_some p) (s ∷ rest) rest)) e ∙ h ∙ sym (ap (λ p. with_entry s.number p (entries_of ss)) e)
live-step s (Some x) e ss rest h = ap (λ p. entries_of (cond (is_some p) (s ∷ rest) rest)) e ∙ ap (with_entry s.number s.slot) h

pub live-entries : (ss : List Place) → entries_of (filter (λ s. is_some s.slot) ss) ≡ entries_of ss
live-entries [] = refl
live-entries (s ∷ ss) = live-step s s.slot refl ss (filter (λ t. is_some t.slot) ss) (live-entries ss)

pub live-ascends : (first next : ℕ) (ss : List Place) → IsAscending first ss next → IsAscending first (filter (λ s. is_some s.slot) ss) next
live-ascends first next [] a = a
live-ascends first next (s ∷ ss) a =
    let rest = live-ascends (s.number + 1) next ss a.1 in
    elim (cases_Bool (is_some s.slot)) [
      | inl t ↦ rw t (a.0, rest)
      | inr f ↦ rw f (lowered first (s.number + 1) next (filter (λ t. is_some t.slot) ss) (omega (arith, a.0)) rest)
    ]

-- dropping the places without a slot
pub keeps-live : (ss : List Place) → KeepsPlaces ss (filter (λ s. is_some s.slot) ss)
keeps-live ss = record {
  ascends = λ next a. live-ascends 0 next ss a;
  same = ap (map.from_entries {R = nat_cmp}) (live-entries ss);
}

-- the map of slots
pub get-map : (ss : List Place) (q : ℕ) → map.get (map_of ss) q ≡ map.find nat_cmp q (entries_of ss)
get-map ss q = map.get-from_entries nat_cmp_total (entries_of ss) q

same : (m n : map.FinMap nat_cmp ℕ) → ((q : ℕ) → map.get m q ≡ map.get n q) → m ≡ n
same = map.same_map nat_cmp_total map.nat_cmp-IsAntisymmetric

pub finds : (next i : ℕ) (ss : List Place) (d : Place) → IsAscending 0 ss next → i < length ss
    → map.get (map_of ss) (get_or ss i d).number ≡ (get_or ss i d).slot
finds next i ss d a l = get-map ss (get_or ss i d).number ∙ found 0 next i ss d a l

set-find : (next q i : ℕ) (ss : List Place) (d w : Place) → IsAscending 0 ss next → i < length ss → w.number ≡ (get_or ss i d).number
    → map.find nat_cmp q (entries_of (slice_set ss i w)) ≡ cond (eq_by_cmp nat_cmp q w.number) w.slot (map.find nat_cmp q (entries_of ss))
set-find next q i ss d w a l e =
    let after = slice_set ss i w in
    let at-w : map.find nat_cmp w.number (entries_of after) ≡ w.slot =
    subst (λ (s : Place). map.find nat_cmp s.number (entries_of after) ≡ s.slot) (get_or-set_same ss i w d l)
    (found 0 next i after d (set-ascends 0 next i ss d w l e a) (lt-length-set ss i w l)) in
    elim (cases_Bool (eq_by_cmp nat_cmp q w.number)) [
      | inl t ↦ ap (λ n. map.find nat_cmp n (entries_of after)) (same_by_cmp q w.number t) ∙ at-w ∙ sym (ap (λ b. cond b w.slot (map.find nat_cmp q (entries_of ss))) t)
      | inr f ↦ set-other q i ss d w l e (λ g. true≢false (sym (ap (eq_by_cmp nat_cmp q) (sym g) ∙ not_told_apart q) ∙ f))
          ∙ sym (ap (λ b. cond b w.slot (map.find nat_cmp q (entries_of ss))) f)
    ]

pub replaced : (next i : ℕ) (ss : List Place) (d w : Place) (x : ℕ) → IsAscending 0 ss next → i < length ss → w.number ≡ (get_or ss i d).number → w.slot ≡ Some x
    → map_of (slice_set ss i w) ≡ map.insert (map_of ss) w.number x
replaced next i ss d w x a l e o = same _ _ (λ q.
    get-map (slice_set ss i w) q ∙ set-find next q i ss d w a l e
    ∙ ap (λ p. cond (eq_by_cmp nat_cmp q w.number) p (map.find nat_cmp q (entries_of ss))) o
    ∙ sym (map.get-insert nat_cmp_total (map_of ss) w.number x q ∙ ap (cond (eq_by_cmp nat_cmp q w.number) (Some x)) (get-map ss q)))

pub taken : (next i : ℕ) (ss : List Place) (d w : Place) → IsAscending 0 ss next → i < length ss → w.number ≡ (get_or ss i d).number → w.slot ≡ None
    → map_of (slice_set ss i w) ≡ map.remove (map_of ss) w.number
taken next i ss d w a l e o = same _ _ (λ q.
    get-map (slice_set ss i w) q ∙ set-find next q i ss d w a l e
    ∙ ap (λ p. cond (eq_by_cmp nat_cmp q w.number) p (map.find nat_cmp q (entries_of ss))) o
    ∙ sym (map.get-remove nat_cmp_total (map_of ss) w.number q ∙ ap (cond (eq_by_cmp nat_cmp q w.number) None) (get-map ss q)))

pub pushed : (n : ℕ) (x : ℕ) (ss : List Place) → IsAscending 0 ss n → map_of (ss ++ record { number = n; slot = Some x } ∷ []) ≡ map.insert (map_of ss) n x
pushed n x ss a =
    ap (map.from_entries {R = nat_cmp}) (push-entries n x ss)
    ∙ map.from_entries_push nat_cmp_total map.nat_cmp-IsAntisymmetric (entries_of ss) n x (absent_above n 0 n ss a (omega arith))

without : (b : Bool) (o : Option ℕ) → (b ≡ true → o ≡ None) → cond b None o ≡ o
without true o h = sym (h refl)
without false o h = refl

-- removing a number that finds nothing
pub removed-absent : (m : map.FinMap nat_cmp ℕ) (n : ℕ) → map.get m n ≡ None → map.remove m n ≡ m
removed-absent m n absent = same _ _ (λ q.
    map.get-remove nat_cmp_total m n q ∙ without (eq_by_cmp nat_cmp q n) (map.get m q) (λ t. ap (map.get m) (same_by_cmp q n t) ∙ absent))

pub absent-map : (q : ℕ) (ss : List Place) → ((k : ℕ) (d : Place) → k < length ss → (get_or ss k d).number ≡ q → ⊥) → map.get (map_of ss) q ≡ None
absent-map q ss h = get-map ss q ∙ absent q ss h

-- the numbers before the last one, and it, are below a higher one
pub absent-last : (q next : ℕ) (ss : List Place) (e : Place) → IsAscending 0 ss next → 0 < length ss → (get_or ss (length ss - 1) e).number < q → map.get (map_of ss) q ≡ None
absent-last q next ss e a n h = absent-map q ss (λ k d l f. absurd (omega (arith, f, h, rises 0 next k (length ss - 1) ss d e a (omega (arith, l)) (omega (arith, n)))))

-- a binary search ends at the number, or no place has it
pub searched : (q : ℕ) (ss : List Place) (r : Result ℕ ℕ) → IsSearchInRange r (length ss) → IsBinarySearchResult (λ s. nat_cmp s.number q) ss r → IsIndexOf ss q (result_ok r)
searched q ss (Ok i) in_range equal = (in_range, λ d. ranked _ q _ (sym (equal d)))
searched q ss (Err i) in_range parted = λ next a.
    let rise : IsNonDecreasingBy (λ s. ordering_index (nat_cmp s.number q)) ss = λ i j d h l. higher _ _ q (rises 0 next i j ss d d a h l) in
    absent-map q ss (λ k d l e. elim (cases_lt k i) [
      | inl h ↦ absurd (omega (arith, e, ranked _ q _ (sym ((parted rise).0 k d (omega arith) h))))
      | inr h ↦ absurd (omega (arith, e, ranked _ q _ (sym ((parted rise).1 k d h l))))
    ])

-- the slot of a place, and the map with another one
pub has-slot : (q i : ℕ) (ss : List Place) (s : Place) → IsIndexOf ss q (Some i) → s ≡ get_or ss i s → Finds ss q s.slot
has-slot q i ss s at e = λ next a.
    ap (map.get (map_of ss)) (sym (at.1 s)) ∙ finds next i ss s a at.0 ∙ ap (λ t. t.slot) (sym e)

pub takes-set : (q i : ℕ) (ss : List Place) (s w : Place) → IsIndexOf ss q (Some i) → s ≡ get_or ss i s → w.number ≡ s.number → w.slot ≡ None → (next : ℕ) → IsAscending 0 ss next
    → map_of (slice_set ss i w) ≡ map.remove (map_of ss) q
takes-set q i ss s w at e n o next a =
    let here : w.number ≡ (get_or ss i s).number = n ∙ ap (λ t. t.number) e in
    taken next i ss s w a at.0 here o ∙ ap (map.remove (map_of ss)) (here ∙ at.1 s)

-- a number moves to the slot that is written into its place
pub moves-set : (q i : ℕ) (ss : List Place) (s w : Place) (x : ℕ) → IsIndexOf ss q (Some i) → s ≡ get_or ss i s → w.number ≡ s.number → w.slot ≡ Some x → MovesTo ss q x (slice_set ss i w)
moves-set q i ss s w x at e n o =
    let here : w.number ≡ (get_or ss i s).number = n ∙ ap (λ t. t.number) e in
    record {
      ascends = λ next a. set-ascends 0 next i ss s w at.0 here a;
      moved = λ next a some. replaced next i ss s w x a at.0 here o ∙ ap (λ k. map.insert (map_of ss) k x) (here ∙ at.1 s);
    }

-- the places before the last one
raised : (first n next : ℕ) (ss : List Place) → n ≤ next → IsAscending first ss n → IsAscending first ss next
raised first n next [] l a = omega (arith, l, a)
raised first n next (s ∷ ss) l a = (a.0, raised (s.number + 1) n next ss l a.1)

front-below : (first next : ℕ) (ss : List Place) (s : Place) → IsAscending first (ss ++ s ∷ []) next → IsAscending first ss s.number
front-below first next [] s a = a.0
front-below first next (t ∷ ts) s a = (a.0, front-below (t.number + 1) next ts s a.1)

last-below : (first next : ℕ) (ss : List Place) (s : Place) → IsAscending first (ss ++ s ∷ []) next → s.number ≤ next
last-below first next [] s a = omega (arith, a.1)
last-below first next (t ∷ ts) s a = last-below (t.number + 1) next ts s a.1

last-entries : (ss : List Place) (s : Place) → entries_of (ss ++ s ∷ []) ≡ entries_of ss ++ with_entry s.number s.slot []
last-entries [] s = refl
last-entries (t ∷ ts) s = with_entry-append t.number t.slot (entries_of ts) (with_entry s.number s.slot []) (last-entries ts s)

inserted-removed : (b : Bool) (x : ℕ) (o : Option ℕ) → cond b None (cond b (Some x) o) ≡ cond b None o
inserted-removed true x o = refl
inserted-removed false x o = refl

remove-insert : (m : map.FinMap nat_cmp ℕ) (n : ℕ) (x : ℕ) → map.get m n ≡ None → map.remove (map.insert m n x) n ≡ m
remove-insert m n x absent = same _ _ (λ q.
    map.get-remove nat_cmp_total (map.insert m n x) n q
    ∙ ap (cond (eq_by_cmp nat_cmp q n) None) (map.get-insert nat_cmp_total m n x q)
    ∙ inserted-removed (eq_by_cmp nat_cmp q n) x (map.get m q)
    ∙ without (eq_by_cmp nat_cmp q n) (map.get m q) (λ t. ap (map.get m) (same_by_cmp q n t) ∙ absent))

last-removed : (n : ℕ) (o : Option ℕ) (ss : List Place) → IsAscending 0 ss n
    → map.remove (map.from_entries {R = nat_cmp} (entries_of ss ++ with_entry n o [])) n ≡ map_of ss
last-removed n None ss a =
    ap (λ es. map.remove (map.from_entries {R = nat_cmp} es) n) (append-nil (entries_of ss))
    ∙ removed-absent (map_of ss) n (get-map ss n ∙ absent_above n 0 n ss a (omega arith))
last-removed n (Some x) ss a =
    ap (λ m. map.remove m n) (map.from_entries_push nat_cmp_total map.nat_cmp-IsAntisymmetric (entries_of ss) n x (absent_above n 0 n ss a (omega arith)))
    ∙ remove-insert (map_of ss) n x (get-map ss n ∙ absent_above n 0 n ss a (omega arith))

-- taking out a number: there is none
pub none-out : (q : ℕ) (ss : List Place) → Finds ss q None → TakesOut ss q None ss
none-out q ss absent = record {
  value = absent;
  ascends = λ next a. a;
  removed = λ next a. sym (removed-absent (map_of ss) q (absent next a));
}

-- by writing `None`
pub sets-out : (q i : ℕ) (ss : List Place) (s w : Place) → IsIndexOf ss q (Some i) → s ≡ get_or ss i s → w.number ≡ s.number → w.slot ≡ None → TakesOut ss q s.slot (slice_set ss i w)
sets-out q i ss s w at e n o = record {
  value = has-slot q i ss s at e;
  ascends = λ next a. set-ascends 0 next i ss s w at.0 (n ∙ ap (λ t. t.number) e) a;
  removed = takes-set q i ss s w at e n o;
}

pub last-slot : (front : List Place) (s d : Place) (i : ℕ) → i + 1 ≡ length (front ++ s ∷ []) → get_or (front ++ s ∷ []) i d ≡ s
last-slot [] s d zero l = refl
last-slot [] s d (suc i) l = absurd (omega (arith, l))
last-slot (t ∷ ts) s d zero l = absurd (omega (arith, l, length-append ts (s ∷ [])))
last-slot (t ∷ ts) s d (suc i) l = last-slot ts s d i (omega (arith, l))

-- by dropping the last place
pub pops-out : (q i : ℕ) (ss front : List Place) (s : Place) → IsIndexOf ss q (Some i) → i + 1 ≡ length ss → ss ≡ front ++ s ∷ [] → TakesOut ss q s.slot front
pops-out q i ss front s at l f =
    let e : s ≡ get_or ss i s = sym (ap (λ ts. get_or ts i s) f ∙ last-slot front s s i (l ∙ ap length f)) in
    let number : s.number ≡ q = ap (λ t. t.number) e ∙ at.1 s in
    record {
      value = has-slot q i ss s at e;
      ascends = λ next a.
          let b = subst (λ l. IsAscending 0 l next) f a in
          raised 0 s.number next front (last-below 0 next front s b) (front-below 0 next front s b);
      removed = λ next a.
          let b = front-below 0 next front s (subst (λ l. IsAscending 0 l next) f a) in
          sym (ap (λ k. map.remove (map_of ss) k) (sym number)
          ∙ ap (λ l. map.remove (map_of l) s.number) f
          ∙ ap (λ es. map.remove (map.from_entries {R = nat_cmp} es) s.number) (last-entries front s)
          ∙ last-removed s.number s.slot front b);
    }

-- each number is below the next one
pub fresh : (next : ℕ) (ss : List Place) → IsAscending 0 ss next → map.get (map_of ss) next ≡ None
fresh next ss a = get-map ss next ∙ absent_above next 0 next ss a (omega arith)
