-- The pairs under each key determine a list in key order.
use Rattle.std.specs.Prelude.{◌≡◌, ℕ, List, [], ◌∷◌, map, Bool, true, false, cond}
use Rattle.std.specs.List.{AllByRecursion, filter}
use Rattle.std.specs.Ordering.{nat_cmp, is_gt, is_eq, ordering_reverse}
use Rattle.std.specs.declared.cmp.Ordering.{Ordering}
use Rattle.std.specs.declared.cmp.Ordering.TheVariants.{Less, Equal, Greater}
use Rattle.std.specs.Cmp.Lexicographic.{slice_cmp}
use Rattle.std.proofs.Common.{refl, ap, sym, ◌∙◌, true≢false}
use Rattle.std.proofs.lemmas.Cmp.{nat_list_cmp_total, upto, tied_itself}
use Rattle.std.proofs.lemmas.Slice.Eq.{bytes_eq-Decides}
use Rattle.std.proofs.lemmas.Map.Text.{is_eq-slice_cmp}
use Rattle.otel_base.specs.Value.{AttributeValue}
use Rattle.otel_base.specs.KeyValue.{Attribute, has_key, values_under}
use Rattle.otel_base.specs.KeyOrder.{insert_in_order, in_key_order, IsRising}

-- the order of texts, by their bytes
abbrev cmp : List ℕ → List ℕ → Ordering
cmp = slice_cmp nat_cmp

-- ---- keys
-- an attribute that has the key k is under k
pub key_is : (k : List ℕ) (p : Attribute) → has_key k p ≡ true → p.0 ≡ k
key_is k p h = (bytes_eq-Decides p.0 k).0 h

-- an attribute has its own key
pub has_own_key : (p : Attribute) → has_key p.0 p ≡ true
has_own_key p = (bytes_eq-Decides p.0 p.0).1 refl

-- a key is not greater than itself
one_key_no_gt : (j k : List ℕ) → j ≡ k → is_gt (cmp j k) ≡ false
one_key_no_gt j k e = ap (λ x. is_gt (cmp x k)) e ∙ ap is_gt (tied_itself nat_list_cmp_total k)

is_gt-reverse : (o : Ordering) → is_gt o ≡ true → o ≡ Greater
is_gt-reverse Less h = absurd (true≢false (sym h))
is_gt-reverse Equal h = absurd (true≢false (sym h))
is_gt-reverse Greater h = refl

-- of two keys, at most one is greater than the other
gt_back : (j k : List ℕ) → is_gt (cmp j k) ≡ true → is_gt (cmp k j) ≡ false
gt_back j k h = ap is_gt (nat_list_cmp_total.antisymm k j) ∙ rw (is_gt-reverse (cmp j k) h) refl

-- ---- inserting
-- two attributes that don't both pass can be swapped
filter_swap : (a b : Bool) (p q : Attribute) (xs : List Attribute) → (a ≡ true → b ≡ true → ⊥)
    → cond b (q ∷ cond a (p ∷ xs) xs) (cond a (p ∷ xs) xs)
    ≡ cond a (p ∷ cond b (q ∷ xs) xs) (cond b (q ∷ xs) xs)
filter_swap true true p q xs h = absurd (h refl refl)
filter_swap true false p q xs h = refl
filter_swap false true p q xs h = refl
filter_swap false false p q xs h = refl

filter_insert_at : (k : List ℕ) (p q : Attribute) (qs : List Attribute) (g : Bool)
    → is_gt (cmp p.0 q.0) ≡ g
    → filter (has_key k) (insert_in_order p qs) ≡ filter (has_key k) (p ∷ qs)
    → filter (has_key k) (cond g (q ∷ insert_in_order p qs) (p ∷ q ∷ qs))
    ≡ filter (has_key k) (p ∷ q ∷ qs)
filter_insert_at k p q qs false e h = refl
filter_insert_at k p q qs true e h =
    ap (λ xs. cond (has_key k q) (q ∷ xs) xs) h
    ∙ filter_swap (has_key k p) (has_key k q) p q (filter (has_key k) qs)
    (λ a b. true≢false (sym e ∙ one_key_no_gt p.0 q.0 (key_is k p a ∙ sym (key_is k q b))))

-- inserting keeps the order under each key
filter-insert_in_order : (k : List ℕ) (p : Attribute) (qs : List Attribute)
    → filter (has_key k) (insert_in_order p qs) ≡ filter (has_key k) (p ∷ qs)
filter-insert_in_order k p [] = refl
filter-insert_in_order k p (q ∷ qs) =
    filter_insert_at k p q qs (is_gt (cmp p.0 q.0)) refl (filter-insert_in_order k p qs)

-- the attributes with the same key keep the given order
pub filter-in_key_order : (k : List ℕ) (ps : List Attribute)
    → filter (has_key k) (in_key_order ps) ≡ filter (has_key k) ps
filter-in_key_order k [] = refl
filter-in_key_order k (p ∷ ps) =
    filter-insert_in_order k p (in_key_order ps)
    ∙ ap (λ xs. cond (has_key k p) (p ∷ xs) xs) (filter-in_key_order k ps)

-- no key of the list is less than the key of p
abbrev NoneBelow : Attribute → List Attribute → Type 0
NoneBelow p ps = AllByRecursion (λ q. is_gt (cmp p.0 q.0) ≡ false) ps

below_all : (p q : Attribute) (qs : List Attribute) → is_gt (cmp p.0 q.0) ≡ false → NoneBelow q qs
    → NoneBelow p qs
below_all p q [] h all = tt
below_all p q (x ∷ qs) h all =
    (upto nat_list_cmp_total p.0 q.0 x.0 h all.0, below_all p q qs h all.1)

below_inserted_at : (q p x : Attribute) (xs : List Attribute) (g : Bool)
    → is_gt (cmp q.0 p.0) ≡ false → NoneBelow q (x ∷ xs) → NoneBelow q (insert_in_order p xs)
    → NoneBelow q (cond g (x ∷ insert_in_order p xs) (p ∷ x ∷ xs))
below_inserted_at q p x xs true h all rest = (all.0, rest)
below_inserted_at q p x xs false h all rest = (h, all)

below_inserted : (q p : Attribute) (xs : List Attribute) → is_gt (cmp q.0 p.0) ≡ false
    → NoneBelow q xs → NoneBelow q (insert_in_order p xs)
below_inserted q p [] h all = (h, tt)
below_inserted q p (x ∷ xs) h all =
    below_inserted_at q p x xs (is_gt (cmp p.0 x.0)) h all (below_inserted q p xs h all.1)

rising_insert_at : (p q : Attribute) (qs : List Attribute) (g : Bool) → is_gt (cmp p.0 q.0) ≡ g
    → IsRising (q ∷ qs) → IsRising (insert_in_order p qs)
    → IsRising (cond g (q ∷ insert_in_order p qs) (p ∷ q ∷ qs))
rising_insert_at p q qs true e up rest = (below_inserted q p qs (gt_back p.0 q.0 e) up.0, rest)
rising_insert_at p q qs false e up rest = ((e, below_all p q qs e up.0), up)

rising_insert : (p : Attribute) (qs : List Attribute) → IsRising qs
    → IsRising (insert_in_order p qs)
rising_insert p [] up = (tt, tt)
rising_insert p (q ∷ qs) up =
    rising_insert_at p q qs (is_gt (cmp p.0 q.0)) refl up (rising_insert p qs up.1)

-- the keys are sorted
pub rising-in_key_order : (ps : List Attribute) → IsRising (in_key_order ps)
rising-in_key_order [] = tt
rising-in_key_order (p ∷ ps) = rising_insert p (in_key_order ps) (rising-in_key_order ps)

-- ---- uniqueness of the order
kept_own : (p : Attribute) (ps : List Attribute)
    → filter (has_key p.0) (p ∷ ps) ≡ p ∷ filter (has_key p.0) ps
kept_own p ps = rw (has_own_key p) refl

-- k is below y, and y is below all of ys
absent_at : (k : List ℕ) (y z : Attribute) (rest : List Attribute) → is_gt (cmp y.0 k) ≡ true
    → is_gt (cmp y.0 z.0) ≡ false → rest ≡ [] → (b : Bool) → has_key k z ≡ b
    → cond b (z ∷ rest) rest ≡ []
absent_at k y z rest above h none true e =
    absurd (true≢false (sym above ∙ ap (λ j. is_gt (cmp y.0 j)) (sym (key_is k z e)) ∙ h))
absent_at k y z rest above h none false e = none

absent : (k : List ℕ) (y : Attribute) (ys : List Attribute) → is_gt (cmp y.0 k) ≡ true
    → NoneBelow y ys → filter (has_key k) ys ≡ []
absent k y [] above all = refl
absent k y (z ∷ ys) above all =
    absent_at k y z (filter (has_key k) ys) above all.0 (absent k y ys above all.1)
    (has_key k z) refl

equal_keys : (o : Ordering) → is_gt o ≡ false → is_gt (ordering_reverse o) ≡ false → is_eq o ≡ true
equal_keys Less h k = absurd (true≢false k)
equal_keys Equal h k = refl
equal_keys Greater h k = absurd (true≢false h)

nil_not_cons : (p : Attribute) (ps : List Attribute) → [] ≡ p ∷ ps → ⊥
nil_not_cons p ps h = cc

-- the heads are equal if neither key is greater
one_head : (x y : Attribute) (xs ys : List Attribute) → is_gt (cmp x.0 y.0) ≡ false
    → is_gt (cmp y.0 x.0) ≡ false → filter (has_key x.0) (x ∷ xs) ≡ filter (has_key x.0) (y ∷ ys)
    → x ≡ y
one_head x y xs ys g h same =
    let tied : is_eq (cmp y.0 x.0) ≡ true =
    equal_keys (cmp y.0 x.0) h (ap is_gt (sym (nat_list_cmp_total.antisymm x.0 y.0)) ∙ g) in
    let key : has_key x.0 y ≡ true = sym (is_eq-slice_cmp y.0 x.0) ∙ tied in
    let there : filter (has_key x.0) (y ∷ ys) ≡ y ∷ filter (has_key x.0) ys =
    ap (λ b. cond b (y ∷ filter (has_key x.0) ys) (filter (has_key x.0) ys)) key in
    let both : x ∷ filter (has_key x.0) xs ≡ y ∷ filter (has_key x.0) ys =
    sym (kept_own x xs) ∙ same ∙ there in
    cc

tail_at : (b : Bool) (x : Attribute) (us vs : List Attribute)
    → cond b (x ∷ us) us ≡ cond b (x ∷ vs) vs → us ≡ vs
tail_at true x us vs h = cc
tail_at false x us vs h = h

unique_at : (x y : Attribute) (xs ys : List Attribute) → IsRising (x ∷ xs) → IsRising (y ∷ ys)
    → ((k : List ℕ) → filter (has_key k) (x ∷ xs) ≡ filter (has_key k) (y ∷ ys))
    → (((k : List ℕ) → filter (has_key k) xs ≡ filter (has_key k) ys) → xs ≡ ys)
    → (g h : Bool) → is_gt (cmp x.0 y.0) ≡ g → is_gt (cmp y.0 x.0) ≡ h → x ∷ xs ≡ y ∷ ys
unique_at x y xs ys up also same next true h g_is h_is =
    absurd (nil_not_cons y (filter (has_key y.0) ys)
    (sym (absent y.0 x (x ∷ xs) g_is (one_key_no_gt x.0 x.0 refl, up.0)) ∙ same y.0
    ∙ kept_own y ys))
unique_at x y xs ys up also same next false true g_is h_is =
    absurd (nil_not_cons x (filter (has_key x.0) xs)
    (sym (absent x.0 y (y ∷ ys) h_is (one_key_no_gt y.0 y.0 refl, also.0)) ∙ sym (same x.0)
    ∙ kept_own x xs))
unique_at x y xs ys up also same next false false g_is h_is =
    let head : x ≡ y = one_head x y xs ys g_is h_is (same x.0) in
    let tails : xs ≡ ys =
    next (λ k. tail_at (has_key k x) x (filter (has_key k) xs) (filter (has_key k) ys) (same k
    ∙ ap (λ p. filter (has_key k) (p ∷ ys)) (sym head))) in
    λ i. head i ∷ tails i

-- two lists with sorted keys that agree under each key are equal
pub unique_order : (xs ys : List Attribute) → IsRising xs → IsRising ys
    → ((k : List ℕ) → filter (has_key k) xs ≡ filter (has_key k) ys) → xs ≡ ys
unique_order [] [] up also same = refl
unique_order [] (y ∷ ys) up also same =
    absurd (nil_not_cons y (filter (has_key y.0) ys) (same y.0 ∙ kept_own y ys))
unique_order (x ∷ xs) [] up also same =
    absurd (nil_not_cons x (filter (has_key x.0) xs) (sym (same x.0) ∙ kept_own x xs))
unique_order (x ∷ xs) (y ∷ ys) up also same =
    unique_at x y xs ys up also same (unique_order xs ys up.1 also.1) (is_gt (cmp x.0 y.0))
    (is_gt (cmp y.0 x.0)) refl refl

-- a sorted list that has the pairs of ps under each key in the order of ps
pub is_in_key_order : (xs ps : List Attribute) → IsRising xs
    → ((k : List ℕ) → filter (has_key k) xs ≡ filter (has_key k) ps) → xs ≡ in_key_order ps
is_in_key_order xs ps up same =
    unique_order xs (in_key_order ps) up (rising-in_key_order ps) (λ k. same k
    ∙ sym (filter-in_key_order k ps))

-- ---- by the values under each key
with_key : List ℕ → AttributeValue → Attribute
with_key k v = (k, v)

pairs_at : (k : List ℕ) (p : Attribute) (rest : List Attribute) (b : Bool) → has_key k p ≡ b
    → rest ≡ map (with_key k) (map (λ q. q.1) rest)
    → cond b (p ∷ rest) rest ≡ map (with_key k) (map (λ q. q.1) (cond b (p ∷ rest) rest))
unfolding with_key
pairs_at k p rest true e h = λ i. (key_is k p e i, p.1) ∷ h i
pairs_at k p rest false e h = h

pairs_from_values : (k : List ℕ) (ps : List Attribute)
    → filter (has_key k) ps ≡ map (with_key k) (values_under k ps)
pairs_from_values k [] = refl
pairs_from_values k (p ∷ ps) =
    pairs_at k p (filter (has_key k) ps) (has_key k p) refl (pairs_from_values k ps)

-- lists with the same values under each key have the same key order
pub one_order_from_values : (xs ys : List Attribute)
    → ((k : List ℕ) → values_under k xs ≡ values_under k ys) → in_key_order xs ≡ in_key_order ys
one_order_from_values xs ys h =
    unique_order (in_key_order xs) (in_key_order ys) (rising-in_key_order xs)
    (rising-in_key_order ys)
    (λ k. filter-in_key_order k xs
    ∙ (pairs_from_values k xs ∙ ap (map (with_key k)) (h k) ∙ sym (pairs_from_values k ys))
    ∙ sym (filter-in_key_order k ys))

-- lists with the same key order have the same values under each key
pub values_from_one_order : (xs ys : List Attribute) → in_key_order xs ≡ in_key_order ys
    → (k : List ℕ) → values_under k xs ≡ values_under k ys
values_from_one_order xs ys e k =
    ap (map (λ p. p.1)) (sym (filter-in_key_order k xs) ∙ ap (filter (has_key k)) e
    ∙ filter-in_key_order k ys)
