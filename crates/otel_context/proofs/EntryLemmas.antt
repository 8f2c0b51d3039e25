-- A list of shared entries in rising order of their slots and keys, and the finite map that it holds.
use Rattle.std.proofs.Common.{bytes_eq, slice_index, set, min, ◌-◌, ⊎_elim, ◌+◌, Ordering, Less, Equal, Greater, ◌≡◌, ◌<◌, ◌≤◌, zero, suc, ℕ, List, [], ◌∷◌, ◌++◌, length, get_or, take, drop, replicate, add-one, append_assoc, None, Some, Bool, true, false, cond, ◌&&◌, T, HoldsAt, nat_cmp, is_eq, is_lt, refl, sym, ap, subst, ◌∙◌, arith}
use Rattle.std.specs.List.{AllZip, All}
use Rattle.std.proofs.lemmas.List.Elements.{All-head, All-tail, All-cons, All-get_or, at_read, length_all_zip}
use Rattle.std.specs.List.Sorted.{IsNonDecreasingBy, IsPartitionPoint}
use Rattle.std.specs.Ordering.{ordering_index, ordering_reverse, ordering_then}
use Rattle.std.specs.Cmp.{nat_cmp_is}
use Rattle.std.specs.FinMap.Entries.{by_order, put, below_all, is_sorted, is_sorted-put, find-put}
use Rattle.std.proofs.lemmas.Bool.{cases_Bool, cases_eq, cond-true, cond-false}
use Rattle.std.proofs.lemmas.List.{map-append, length-take, length-drop, get_or-take, get_or-drop, get_or-replicate, get_or-set_same, get_or-set_other}
use Rattle.std.proofs.lemmas.Nat.{mod_below}
use Rattle.std.proofs.lemmas.List.Sorted.{searchable_from_sorted}
use Rattle.std.proofs.lemmas.Cmp.{nat_list_cmp_total, tied_itself}
use Rattle.std.proofs.lemmas.Map.Lookups.{exact_bytes}
use Rattle.std.proofs.lemmas.Map.Text.{is_eq-slice_cmp}
use Rattle.std.specs.FinMap.{get, find, insert, empty, get-empty, get-from_entries, get-insert, same_map}
use Rattle.std.proofs.lemmas.Option.{none-some}
use Rattle.std.proofs.lemmas.Slice.Eq.{bytes_eq-Decides}
use Rattle.std.specs.declared.alloc.Global.{Global}
use Rattle.std.specs.declared.rc.Rc.{Rc}
use Rattle.otel_base.specs.AnyValue.{Tree}
use Rattle.otel_base.specs.View.{tree}
use Rattle.otel_context.specs.declared.context.entries.Entry.{Entry}
use Rattle.otel_context.specs.View.{pairs, rows, text_cmp, sort_key, slot_number, by_key, entries_seen, slots, IsRising, AreInSlots, IsLast, AreLasts, IsOtherAt}

pub get_seen : (es : List (Rc Entry Global)) (q : List ℕ) → get (entries_seen es) q ≡ find text_cmp q (pairs es)
get_seen es q = get-from_entries nat_list_cmp_total (pairs es) q

find_first : (e : List ℕ × Tree) (es : List (List ℕ × Tree)) (q : List ℕ)
    → find text_cmp q (e ∷ es) ≡ cond (bytes_eq q e.0) (Some e.1) (find text_cmp q es)
find_first e es q = ap (λ b. cond b (Some e.1) (find text_cmp q es)) (is_eq-slice_cmp q e.0)

pub find_here : (e : Rc Entry Global) (es : List (Rc Entry Global)) (q : List ℕ) → bytes_eq q e.value.key ≡ true
    → find text_cmp q (pairs (e ∷ es)) ≡ Some (tree e.value.value)
find_here e es q h = find_first (e.value.key, tree e.value.value) (pairs es) q ∙ cond-true _ _ _ h

pub find_later : (e : Rc Entry Global) (es : List (Rc Entry Global)) (q : List ℕ) → bytes_eq q e.value.key ≡ false
    → find text_cmp q (pairs (e ∷ es)) ≡ find text_cmp q (pairs es)
find_later e es q h = find_first (e.value.key, tree e.value.value) (pairs es) q ∙ cond-false _ _ _ h

-- copies that share the entries have what holds of each value
pub All-shared : (P : Entry → Type 0) (es fs : List (Rc Entry Global)) → AllZip (λ e f. f.value ≡ e.value) es fs → All (λ e. P e.value) es → All (λ e. P e.value) fs
All-shared P [] [] h all = all
All-shared P [] (f ∷ fs) h all = absurd h
All-shared P (e ∷ es) [] h all = absurd h
All-shared P (e ∷ es) (f ∷ fs) h all =
    All-cons (λ e. P e.value) f fs (subst P (sym h.0) (All-head (λ e. P e.value) e es all)) (All-shared P es fs h.1 (All-tail (λ e. P e.value) e es all))

-- and the same rows and pairs
pub rows-AllZip : (es fs : List (Rc Entry Global)) → AllZip (λ e f. f.value ≡ e.value) es fs → rows fs ≡ rows es
rows-AllZip [] [] h = refl
rows-AllZip [] (f ∷ fs) h = absurd h
rows-AllZip (e ∷ es) [] h = absurd h
rows-AllZip (e ∷ es) (f ∷ fs) h = λ i. (sort_key (h.0 i), tree (h.0 i).value) ∷ rows-AllZip es fs h.1 i

pub pairs-AllZip : (es fs : List (Rc Entry Global)) → AllZip (λ e f. f.value ≡ e.value) es fs → pairs fs ≡ pairs es
pairs-AllZip [] [] h = refl
pairs-AllZip [] (f ∷ fs) h = absurd h
pairs-AllZip (e ∷ es) [] h = absurd h
pairs-AllZip (e ∷ es) (f ∷ fs) h = λ i. ((h.0 i).key, tree (h.0 i).value) ∷ pairs-AllZip es fs h.1 i

-- ---- slots

same_text : (q k : List ℕ) → bytes_eq q k ≡ true → q ≡ k
same_text q k h = (bytes_eq-Decides q k).0 h

-- texts in their slots are equal if the texts are
eq_in_slots : (s r : ℕ) (q k : List ℕ) → s ≡ slot_number q → r ≡ slot_number k → bytes_eq (s ∷ q) (r ∷ k) ≡ bytes_eq q k
eq_in_slots s r q k is of =
    ⊎_elim
    (λ t.
    (bytes_eq-Decides (s ∷ q) (r ∷ k)).1 (λ i. (is ∙ ap slot_number (same_text q k t) ∙ sym of) i ∷ same_text q k t i)
    ∙ sym t)
    (λ f.
    ⊎_elim
    (λ t. absurd (subst T (sym ((bytes_eq-Decides q k).1 (ap (drop 1) (same_text (s ∷ q) (r ∷ k) t))) ∙ f) tt))
    (λ g. g ∙ sym f)
    (cases_Bool (bytes_eq (s ∷ q) (r ∷ k))))
    (cases_Bool (bytes_eq q k))

cmp_in_slots : (s r : ℕ) (q k : List ℕ) → s ≡ slot_number q → r ≡ slot_number k → is_eq (text_cmp (s ∷ q) (r ∷ k)) ≡ is_eq (text_cmp q k)
cmp_in_slots s r q k is of = is_eq-slice_cmp (s ∷ q) (r ∷ k) ∙ eq_in_slots s r q k is of ∙ sym (is_eq-slice_cmp q k)

abbrev pub InSlot : Rc Entry Global → Type 0
InSlot e = e.value.slot ≡ slot_number e.value.key

-- a text is found in its slot
pub find_in_slot : (s : ℕ) (q : List ℕ) (es : List (Rc Entry Global)) → s ≡ slot_number q → AreInSlots es
    → find text_cmp q (pairs es) ≡ find text_cmp (s ∷ q) (rows es)
find_in_slot s q [] is h = refl
find_in_slot s q (e ∷ es) is h =
    ap (λ b. cond b (Some (tree e.value.value)) (find text_cmp q (pairs es))) (sym (cmp_in_slots s e.value.slot q e.value.key is (All-head InSlot e es h)))
    ∙ ap (cond (is_eq (text_cmp (s ∷ q) (sort_key e.value))) (Some (tree e.value.value))) (find_in_slot s q es is (All-tail InSlot e es h))

-- an entry in another slot has another name
other_name : (q : List ℕ) (e : Rc Entry Global) → InSlot e → (e.value.slot ≡ slot_number q → ⊥) → bytes_eq q e.value.key ≡ false
other_name q e slot out =
    ⊎_elim
    (λ t. absurd (out (slot ∙ ap slot_number (sym (same_text q e.value.key t)))))
    (λ f. f)
    (cases_Bool (bytes_eq q e.value.key))

-- a text isn't found among the first n if none of them is in its slot
find_none : (q : List ℕ) (es : List (Rc Entry Global)) (n : ℕ) → AreInSlots es
    → ((k : ℕ) → k < n → k < length es → slice_index (slots es) k ≡ slot_number q → ⊥) → find text_cmp q (pairs (take n es)) ≡ None
find_none q [] zero h out = refl
find_none q [] (suc n) h out = refl
find_none q (e ∷ es) zero h out = refl
find_none q (e ∷ es) (suc n) h out =
    find_later e (take n es) q (other_name q e (All-head InSlot e es h) (out 0 (omega arith) (omega arith)))
    ∙ find_none q es n (All-tail InSlot e es h) (λ k a b. out (suc k) (omega arith) (omega arith))

-- entries in other slots can be left out
find_cut : (q : List ℕ) (es : List (Rc Entry Global)) (n : ℕ) → AreInSlots es
    → ((k : ℕ) → n ≤ k → k < length es → slice_index (slots es) k ≡ slot_number q → ⊥)
    → find text_cmp q (pairs es) ≡ find text_cmp q (pairs (take n es))
find_cut q [] zero h out = refl
find_cut q [] (suc n) h out = refl
find_cut q (e ∷ es) zero h out =
    find_later e es q (other_name q e (All-head InSlot e es h) (out 0 (omega arith) (omega arith)))
    ∙ find_cut q es zero (All-tail InSlot e es h) (λ k a b. out (suc k) (omega arith) (omega arith))
find_cut q (e ∷ es) (suc n) h out =
    ap (cond (is_eq (text_cmp q e.value.key)) (Some (tree e.value.value)))
    (find_cut q es n (All-tail InSlot e es h) (λ k a b. out (suc k) (omega arith) (omega arith)))

other_cut : (q : List ℕ) (es : List (Rc Entry Global)) (n : ℕ) → n < length es → IsOtherAt q es n
    → find text_cmp q (pairs (take (suc n) es)) ≡ find text_cmp q (pairs (take n es))
other_cut q [] n w other = absurd (omega arith)
other_cut q (e ∷ es) zero w other = find_later e [] q (other e)
other_cut q (e ∷ es) (suc n) w other = ap (cond (is_eq (text_cmp q e.value.key)) (Some (tree e.value.value))) (other_cut q es n (omega arith) other)

-- and so can one with another name
pub find_step : (q : List ℕ) (es : List (Rc Entry Global)) (i : ℕ) (e : Rc Entry Global) → i < length es → e ≡ get_or es i e
    → bytes_eq q e.value.key ≡ false → find text_cmp q (pairs (take (i + 1) es)) ≡ find text_cmp q (pairs (take i es))
find_step q es i e within is other =
    ap (λ n. find text_cmp q (pairs (take n es))) (add-one i)
    ∙ other_cut q es i within (at_read es (λ (e : Rc Entry Global). bytes_eq q e.value.key ≡ false) i e within is other)

-- a slot's number
pub slot_below : (q : List ℕ) → slot_number q < 128
slot_below q = mod_below _ 128 (omega arith)

first : (a b : Bool) → T (a && b) → T a
first true b h = tt
first false b h = h

second : (a b : Bool) → T (a && b) → T b
second true b h = h
second false b h = absurd h

less : (r : Ordering) → T (is_lt r) → r ≡ Less
less Less h = refl
less Equal h = absurd h
less Greater h = absurd h

turned : (xs ys : List ℕ) (r : Ordering) → text_cmp xs ys ≡ r → text_cmp ys xs ≡ ordering_reverse r
turned xs ys r h = nat_list_cmp_total.antisymm ys xs ∙ ap ordering_reverse h

below_at : (k : List ℕ) (es : List (Rc Entry Global)) (i : ℕ) (d : Rc Entry Global) → T (below_all text_cmp k (rows es)) → i < length es
    → text_cmp k (sort_key (get_or es i d).value) ≡ Less
below_at k [] i d h w = absurd (omega arith)
below_at k (e ∷ es) zero d h w = less _ (first _ _ h)
below_at k (e ∷ es) (suc i) d h w = below_at k es i d (second _ _ h) (omega arith)

rising_at : (es : List (Rc Entry Global)) → IsRising es → (i j : ℕ) (d : Rc Entry Global) → i < j → j < length es
    → text_cmp (sort_key (get_or es i d).value) (sort_key (get_or es j d).value) ≡ Less
rising_at [] h i j d a b = absurd (omega arith)
rising_at (e ∷ es) h i zero d a b = absurd (omega arith)
rising_at (e ∷ es) h zero (suc j) d a b = below_at (sort_key e.value) es j d (first _ _ h) (omega arith)
rising_at (e ∷ es) h (suc i) (suc j) d a b = rising_at es (second _ _ h) i j d (omega arith) (omega arith)

next_above : (es : List (Rc Entry Global)) → IsRising es → (i : ℕ) (d : Rc Entry Global) → suc i < length es
    → is_lt (text_cmp (sort_key (get_or es (suc i) d).value) (sort_key (get_or es i d).value)) ≡ false
next_above [] h i d w = absurd (omega arith)
next_above (e ∷ es) h zero d w = ap is_lt (turned (sort_key e.value) (sort_key (get_or es 0 d).value) Less (below_at (sort_key e.value) es 0 d (first _ _ h) (omega arith)))
next_above (e ∷ es) h (suc i) d w = next_above es (second _ _ h) i d (omega arith)

-- ---- the last entry of each slot

pub slot_at : (es : List (Rc Entry Global)) (k : ℕ) (d : Rc Entry Global) → k < length es → slice_index (slots es) k ≡ (get_or es k d).value.slot
slot_at [] k d h = absurd (omega arith)
slot_at (e ∷ es) zero d h = refl
slot_at (e ∷ es) (suc k) d h = slot_at es k d (omega arith)

slots-AllZip : (es fs : List (Rc Entry Global)) → AllZip (λ e f. f.value ≡ e.value) es fs → slots fs ≡ slots es
slots-AllZip [] [] h = refl
slots-AllZip [] (f ∷ fs) h = absurd h
slots-AllZip (e ∷ es) [] h = absurd h
slots-AllZip (e ∷ es) (f ∷ fs) h = λ i. (h.0 i).slot ∷ slots-AllZip es fs h.1 i

-- copies that share the entries have them at the same places
pub AreLasts-AllZip : (lasts : List ℕ) (es fs : List (Rc Entry Global)) → AllZip (λ e f. f.value ≡ e.value) es fs → AreLasts lasts es → AreLasts lasts fs
AreLasts-AllZip lasts es fs h last s below =
    subst (λ (p : List ℕ × ℕ). IsLast p.0 p.1 s (slice_index lasts s)) {x = (slots es, length es)} {y = (slots fs, length fs)}
    (λ i. (sym (slots-AllZip es fs h) i, length_all_zip _ es fs h i)) (last s below)

not_greater : (o p : Ordering) → ordering_then o p ≡ Less → o ≡ Greater → ⊥
not_greater Less p h g = cc
not_greater Equal p h g = cc
not_greater Greater p h g = cc

slot_order : (s r : ℕ) (k l : List ℕ) → text_cmp (s ∷ k) (r ∷ l) ≡ Less → s ≤ r
slot_order s r k l h =
    let out : r < s → ⊥ = λ above. not_greater (nat_cmp s r) (text_cmp k l) h (sym (nat_cmp_is s r Greater above)) in
    omega (arith, out)

slots_rise : (es : List (Rc Entry Global)) (d : Rc Entry Global) → IsRising es → (i j : ℕ) → i < j → j < length es
    → slice_index (slots es) i ≤ slice_index (slots es) j
slots_rise es d h i j a b =
    let e = (get_or es i d).value in
    let f = (get_or es j d).value in
    let order = slot_order e.slot f.slot e.key f.key (rising_at es h i j d a b) in
    omega (arith, order, slot_at es i d (omega arith), slot_at es j d b)

-- a text isn't found below an entry in its slot if the one just below is in another
pub find_below : (q : List ℕ) (es : List (Rc Entry Global)) (at : ℕ) (e : Rc Entry Global) → IsRising es → AreInSlots es → 0 < at → at < length es
    → slice_index (slots es) at ≡ slot_number q → e ≡ get_or es (at - 1) e → (e.value.slot ≡ slot_number q → ⊥)
    → find text_cmp q (pairs (take at es)) ≡ None
find_below q es at e rising h some within in' is out =
    let before : at - 1 < at = omega arith in
    let slot = slot_at es (at - 1) e (omega arith) ∙ sym (ap (λ (e : Rc Entry Global). e.value.slot) is) in
    find_none q es at h (λ k a b same.
    let above = slots_rise es e rising (at - 1) at before within in
    let below : k < at - 1 → slice_index (slots es) k ≤ slice_index (slots es) (at - 1) = λ c. slots_rise es e rising k (at - 1) c (omega arith) in
    ⊎_elim
    (λ eq. out (sym slot ∙ ap (slice_index (slots es)) (sym eq) ∙ same))
    (λ ne. out (sym slot ∙ omega (arith, below, above, in', same, ne)))
    (cases_eq k (at - 1)))

-- if a slot's last entry has another name, the entries below it are left
pub find_older : (q : List ℕ) (lasts : List ℕ) (es : List (Rc Entry Global)) (s last : ℕ) → s ≡ slot_number q → last ≡ slice_index lasts s → last < 254
    → AreInSlots es → AreLasts lasts es → IsOtherAt q es (slice_index lasts (slot_number q))
    → (last < length es) × (slice_index (slots es) last ≡ s) × (find text_cmp q (pairs es) ≡ find text_cmp q (pairs (take last es)))
find_older q lasts es s last is_slot is_last low h all other =
    let known = subst (IsLast (slots es) (length es) s) (sym is_last) (all s (subst (λ n. n < 128) (sym is_slot) (slot_below q))) in
    let within = known.0 (omega arith) in (
      within,
      known.1 low,
      find_cut q es (suc last) h (λ k a b same.
          let place = known.2 k b (same ∙ sym is_slot) in
          absurd (omega (arith, place.1, a, low)))
          ∙ other_cut q es last within (subst (IsOtherAt q es) (ap (slice_index lasts) (sym is_slot) ∙ sym is_last) other),
    )

-- the length of a range of n from first on, and an entry in it
range_length : (es : List (Rc Entry Global)) (first n : ℕ) → length (take n (drop first es)) ≡ min n (length es - first)
range_length es first n = length-take n (drop first es) ∙ ap (min n) (length-drop first es)

pub range_end : (es : List (Rc Entry Global)) (first end j : ℕ) → first ≤ end → end ≤ length es → j ≤ length (take (end - first) (drop first es))
    → length (take (end - first) (drop first es)) ≤ j → first + j ≡ end
range_end es first end j low high below above = omega (arith, range_length es first (end - first), low, high, below, above)

pub range_at : (es : List (Rc Entry Global)) (first n j : ℕ) (e : Rc Entry Global) → j < length (take n (drop first es)) → e ≡ get_or (take n (drop first es)) j e
    → (first + j < length es) × (e ≡ get_or es (first + j) e)
range_at es first n j e h is =
    let long = range_length es first n in (
      omega (arith, long, h),
      is ∙ get_or-take n (drop first es) j e (omega (arith, long, h)) ∙ get_or-drop first es j e,
    )

-- and a text isn't found if its slot is empty
pub find_empty : (q : List ℕ) (lasts : List ℕ) (es : List (Rc Entry Global)) → slice_index lasts (slot_number q) ≡ 255 → AreInSlots es → AreLasts lasts es
    → find text_cmp q (pairs es) ≡ None
find_empty q lasts es empty h all =
    find_cut q es 0 h (λ k a b same.
    let place = (all (slot_number q) (slot_below q)).2 k b same in
    omega (arith, place.0, empty))

-- of no entries
pub lasts_none : (xs : List ℕ) (s : ℕ) → s < 128 → IsLast xs 0 s (slice_index (replicate 128 255) s)
lasts_none xs s below =
    subst (IsLast xs 0 s) (sym (get_or-replicate 128 s 255 0 below))
    (λ h. absurd (omega (arith, h)), λ h. absurd (omega (arith, h)), λ k a is. absurd (omega (arith, a)))

-- and one more
pub lasts_more : (lasts xs : List ℕ) (i n v : ℕ) → length lasts ≡ 128 → n < 128 → v ≡ min i 254 → slice_index xs i ≡ n
    → ((s : ℕ) → s < 128 → IsLast xs i s (slice_index lasts s)) → (s : ℕ) → s < 128 → IsLast xs (i + 1) s (slice_index (set lasts n v) s)
lasts_more lasts xs i n v long within index at old s below =
    ⊎_elim
    (λ same. subst (IsLast xs (i + 1) s) (sym (ap (slice_index (set lasts n v)) same ∙ get_or-set_same lasts n v 0 (omega arith))) (
      omega arith,
      λ low. ap (slice_index xs) (omega arith) ∙ at ∙ sym same,
      λ k a is. (omega arith, omega arith),
    ))
    (λ other.
    let kept = old s below in
    let not_here : (k : ℕ) → slice_index xs k ≡ s → k ≡ i → ⊥ = λ k is here. other (sym is ∙ ap (slice_index xs) here ∙ at) in
    subst (IsLast xs (i + 1) s) (sym (get_or-set_other lasts n s v 0 other)) (
      λ low. omega (arith, kept.0 low),
      kept.1,
      λ k a is. kept.2 k (omega (arith, not_here k is)) is,
    ))
    (cases_eq s n)

-- the conditions of a binary search for k among the entries
pub searchable : (es : List (Rc Entry Global)) (k : List ℕ) → IsRising es → IsNonDecreasingBy (λ e. ordering_index (by_key k e)) es
searchable es k h = searchable_from_sorted nat_list_cmp_total (λ e. sort_key e.value) es k
    (λ i d _ w. ap (λ n. is_lt (text_cmp (sort_key (get_or es n d).value) (sort_key (get_or es i d).value))) (add-one i) ∙ next_above es h i d (omega arith))

-- the first entry of a list, by how its key compares with k
module _ (k : List ℕ) (e : Rc Entry Global) (es : List (Rc Entry Global)) (r : Ordering) (h : by_key k e ≡ r) where
  find_head : find text_cmp k (rows (e ∷ es)) ≡ cond (is_eq (ordering_reverse r)) (Some (tree e.value.value)) (find text_cmp k (rows es))
  find_head = ap (λ r. cond (is_eq r) (Some (tree e.value.value)) (find text_cmp k (rows es))) (turned (sort_key e.value) k r h)

  put_head : (t : Tree) → put text_cmp k t (rows (e ∷ es))
      ≡ by_order (ordering_reverse r) ((k, t) ∷ rows (e ∷ es)) ((sort_key e.value, t) ∷ rows es) ((sort_key e.value, tree e.value.value) ∷ put text_cmp k t (rows es))
  put_head t =
      ap (λ r. by_order r ((k, t) ∷ rows (e ∷ es)) ((sort_key e.value, t) ∷ rows es) ((sort_key e.value, tree e.value.value) ∷ put text_cmp k t (rows es)))
      (turned (sort_key e.value) k r h)

-- if k is the key at a place
module _ (k : List ℕ) where
  head_below : (e : Rc Entry Global) (es : List (Rc Entry Global)) (at : ℕ) → IsRising (e ∷ es) → at < length es → HoldsAt (λ e. by_key k e ≡ Equal) es at
      → by_key k e ≡ Less
  head_below e es at h w is =
      ap (text_cmp (sort_key e.value)) (sym (exact_bytes (sort_key (get_or es at e).value) k (is e))) ∙ below_at (sort_key e.value) es at e (first _ _ h) w

  pub find-found : (es : List (Rc Entry Global)) (at : ℕ) (d : Rc Entry Global) → IsRising es → at < length es → HoldsAt (λ e. by_key k e ≡ Equal) es at
      → find text_cmp k (rows es) ≡ Some (tree (get_or es at d).value.value)
  find-found [] at d h w is = absurd (omega arith)
  find-found (e ∷ es) zero d h w is = find_head k e es Equal (is d)
  find-found (e ∷ es) (suc at) d h w is =
      find_head k e es Less (head_below e es at h (omega arith) is) ∙ find-found es at d (second _ _ h) (omega arith) is

  pub put-found : (t : Tree) (es : List (Rc Entry Global)) (at : ℕ) → IsRising es → at < length es → HoldsAt (λ e. by_key k e ≡ Equal) es at
      → put text_cmp k t (rows es) ≡ rows (take at es) ++ (k, t) ∷ rows (drop (suc at) es)
  put-found t [] at h w is = absurd (omega arith)
  put-found t (e ∷ es) zero h w is = put_head k e es Equal (is e) t ∙ ap (λ l. (l, t) ∷ rows es) (exact_bytes (sort_key e.value) k (is e))
  put-found t (e ∷ es) (suc at) h w is =
      put_head k e es Less (head_below e es at h (omega arith) is) t
      ∙ ap (λ ps. (sort_key e.value, tree e.value.value) ∷ ps) (put-found t es at (second _ _ h) (omega arith) is)

-- the entry at an index with that key is the one that is found
pub find_at : (q : List ℕ) (es : List (Rc Entry Global)) (at : ℕ) (e : Rc Entry Global) → IsRising es → AreInSlots es
    → at < length es → e ≡ get_or es at e → bytes_eq q e.value.key ≡ true
    → find text_cmp q (pairs es) ≡ Some (tree e.value.value)
find_at q es at e rising slots within is named =
    let slot = subst InSlot (sym is) (All-get_or InSlot es at e within slots) in
    let key = same_text q e.value.key named in
    let k = slot_number q ∷ q in
    let equal = ap (text_cmp (sort_key e.value)) {y = sort_key e.value} (λ i. (ap slot_number key ∙ sym slot) i ∷ key i) ∙ tied_itself nat_list_cmp_total (sort_key e.value) in
    find_in_slot (slot_number q) q es refl slots
    ∙ find-found k es at e rising within (at_read es (λ e. by_key k e ≡ Equal) at e within is equal)
    ∙ ap (λ (e : Rc Entry Global). Some (tree e.value.value)) (sym is)

-- if the keys below a place are less than k, and the others greater
module _ (k : List ℕ) where
  pub find-missed : (es : List (Rc Entry Global)) (at : ℕ) → IsPartitionPoint (λ e. by_key k e ≡ Less) (λ e. by_key k e ≡ Greater) es at
      → find text_cmp k (rows es) ≡ None
  find-missed [] at h = refl
  find-missed (e ∷ es) zero h =
      find_head k e es Greater (h.1 0 e (omega arith) (omega arith))
      ∙ find-missed es zero (λ i d a b. absurd (omega arith), λ i d a b. h.1 (suc i) d (omega arith) (omega arith))
  find-missed (e ∷ es) (suc at) h =
      find_head k e es Less (h.0 0 e (omega arith) (omega arith))
      ∙ find-missed es at (λ i d a b. h.0 (suc i) d (omega arith) (omega arith), λ i d a b. h.1 (suc i) d (omega arith) (omega arith))

  pub put-missed : (t : Tree) (es : List (Rc Entry Global)) (at : ℕ) → IsPartitionPoint (λ e. by_key k e ≡ Less) (λ e. by_key k e ≡ Greater) es at
      → put text_cmp k t (rows es) ≡ rows (take at es) ++ (k, t) ∷ rows (drop at es)
  put-missed t [] zero h = refl
  put-missed t [] (suc at) h = refl
  put-missed t (e ∷ es) zero h = put_head k e es Greater (h.1 0 e (omega arith) (omega arith)) t
  put-missed t (e ∷ es) (suc at) h =
      put_head k e es Less (h.0 0 e (omega arith) (omega arith)) t
      ∙ ap (λ ps. (sort_key e.value, tree e.value.value) ∷ ps)
      (put-missed t es at (λ i d a b. h.0 (suc i) d (omega arith) (omega arith), λ i d a b. h.1 (suc i) d (omega arith) (omega arith)))

-- the rows of copies of two parts with e between them
pub rows-joined : (front back ys zs fs : List (Rc Entry Global)) (e : Rc Entry Global) (k : List ℕ) (t : Tree)
    → AllZip (λ e f. f.value ≡ e.value) front ys → AllZip (λ e f. f.value ≡ e.value) back zs → fs ≡ (ys ++ e ∷ []) ++ zs
    → sort_key e.value ≡ k → tree e.value.value ≡ t → rows fs ≡ rows front ++ (k, t) ∷ rows back
rows-joined front back ys zs fs e k t h g is key value =
    let pair : Rc Entry Global → List ℕ × Tree = λ f. (sort_key f.value, tree f.value.value) in
    ap rows (is ∙ append_assoc ys (e ∷ []) zs)
    ∙ map-append pair ys (e ∷ zs)
    ∙ (λ i. rows-AllZip front ys h i ++ (key i, value i) ∷ rows-AllZip back zs g i)

-- entries whose rows are the ones of es with k put at t in its slot
module _ (es fs : List (Rc Entry Global)) (s : ℕ) (k : List ℕ) (t : Tree) (is : rows fs ≡ put text_cmp (s ∷ k) t (rows es)) where
  pub IsRising-put : IsRising es → IsRising fs
  IsRising-put h = subst (λ ps. T (is_sorted text_cmp ps)) (sym is) (is_sorted-put text_cmp nat_list_cmp_total (s ∷ k) t (rows es) h)

  pub insert-put : s ≡ slot_number k → AreInSlots es → AreInSlots fs → entries_seen fs ≡ insert (entries_seen es) k t
  insert-put slot h g = same_map nat_list_cmp_total exact_bytes _ _ (λ q.
      get_seen fs q
      ∙ find_in_slot (slot_number q) q fs refl g
      ∙ ap (find text_cmp (slot_number q ∷ q)) is
      ∙ find-put text_cmp nat_list_cmp_total (slot_number q ∷ q) (s ∷ k) t (rows es)
      ∙ ap (λ b. cond b (Some t) (find text_cmp (slot_number q ∷ q) (rows es))) (cmp_in_slots (slot_number q) s q k refl slot)
      ∙ ap (cond (is_eq (text_cmp q k)) (Some t)) (sym (get_seen es q ∙ find_in_slot (slot_number q) q es refl h))
      ∙ sym (get-insert nat_list_cmp_total (entries_seen es) k t q))

-- the map is empty only if there are no entries
pub seen_none : (es : List (Rc Entry Global)) → length es ≡ 0 → entries_seen es ≡ empty
seen_none [] h = refl
seen_none (e ∷ es) h = absurd (omega (arith, h))

pub none_seen : (es : List (Rc Entry Global)) → entries_seen es ≡ empty → length es ≡ 0
none_seen [] h = refl
none_seen (e ∷ es) h =
    absurd (none-some (tree e.value.value) (
    sym (get-empty text_cmp e.value.key) ∙ ap (λ m. get m e.value.key) (sym h)
    ∙ get_seen (e ∷ es) e.value.key ∙ find_here e es e.value.key ((bytes_eq-Decides e.value.key e.value.key).1 refl)))
