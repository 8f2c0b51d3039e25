-- A stable sort of the positions by the keys gives the key order.
use Rattle.std.proofs.Common.{◌≡◌, ℕ, suc, ◌+◌, ◌<◌, ◌≤◌, List, [], ◌∷◌, map, length, get_or, take}
use Rattle.std.proofs.Common.{◌++◌, Bool, true, false, cond, not, ◌&&◌, ◌||◌, Option, Some, None}
use Rattle.std.proofs.Common.{option_map, ◌⊎◌, inl, inr, refl, ap, sym, ◌∙◌, true≢false, arith}
use Rattle.std.specs.List.{slice_get, filter, AllByRecursion, list_any}
use Rattle.std.specs.List.Sorted.{IsSortedBy, IsStableBy, IsPermutation, ties}
use Rattle.std.specs.Option.{option_cmp, is_none}
use Rattle.std.specs.Ordering.{nat_cmp, is_lt, is_gt, is_eq, ordering_reverse}
use Rattle.std.specs.declared.cmp.Ordering.{Ordering}
use Rattle.std.specs.declared.cmp.Ordering.TheVariants.{Less, Equal, Greater}
use Rattle.std.specs.Cmp.{IsStrictWeakOrder}
use Rattle.std.specs.Cmp.Lexicographic.{slice_cmp, options_total}
use Rattle.std.proofs.lemmas.Cmp.{nat_list_cmp_total}
use Rattle.std.proofs.lemmas.List.Sorted.{ranks_by, sorted_far, list_any-IsPermutation}
use Rattle.std.proofs.lemmas.Map.Text.{is_eq-slice_cmp}
use Rattle.std.proofs.lemmas.List.{take_more, map_push}
use Rattle.std.proofs.lemmas.Option.{slice_get-get_or}
use Rattle.otel_base.specs.Value.{boolean}
use Rattle.otel_base.specs.KeyValue.{Attribute, has_key}
use Rattle.otel_base.specs.KeyOrder.{IsKeyOrder, IsRising, key_at, position_cmp}
use Rattle.otel_base.specs.KeyOrderLaws.{key_is, is_in_key_order}

abbrev cmp : List ℕ → List ℕ → Ordering
cmp = slice_cmp nat_cmp

abbrev pub before : List Attribute → ℕ → ℕ → Bool
before ps i j = is_lt (position_cmp ps i j)

pub before-IsStrictWeakOrder : (ps : List Attribute) → IsStrictWeakOrder (before ps)
before-IsStrictWeakOrder ps = ranks_by (options_total nat_list_cmp_total) (key_at ps)

-- ---- the pairs at positions
abbrev somes : List (Option Attribute) → List Attribute
somes [] = []
somes (None ∷ os) = somes os
somes (Some p ∷ os) = p ∷ somes os

somes-map-Some : (ps : List Attribute) → somes (map (λ p. Some p) ps) ≡ ps
somes-map-Some [] = refl
somes-map-Some (p ∷ ps) = ap (λ qs. p ∷ qs) (somes-map-Some ps)

none_missing : (ps : List Attribute) → list_any is_none (map (λ p. Some p) ps) ≡ false
none_missing [] = refl
none_missing (p ∷ ps) = none_missing ps

all_there : (os : List (Option Attribute)) → list_any is_none os ≡ false
    → os ≡ map (λ p. Some p) (somes os)
all_there [] h = refl
all_there (None ∷ os) h = absurd (true≢false h)
all_there (Some p ∷ os) h = ap (λ qs. Some p ∷ qs) (all_there os h)

any-map : (g : ℕ → Option Attribute) (is : List ℕ)
    → list_any is_none (map g is) ≡ list_any (λ i. is_none (g i)) is
any-map g [] = refl
any-map g (i ∷ is) = ap (λ b. is_none (g i) || b) (any-map g is)

-- ---- sorted keys
abbrev NoneAbove : List Attribute → ℕ → List ℕ → Type 0
NoneAbove ps i is = AllByRecursion (λ j. before ps j i ≡ false) is

abbrev Rises : List Attribute → List ℕ → Type 0
Rises ps [] = Unit {0}
Rises ps (i ∷ is) = NoneAbove ps i is × Rises ps is

each_below : (ps : List Attribute) (i : ℕ) (is : List ℕ)
    → ((k : ℕ) → k < length is → before ps (get_or is k i) i ≡ false) → NoneAbove ps i is
each_below ps i [] h = tt
each_below ps i (j ∷ is) h =
    (h 0 (omega arith), each_below ps i is (λ k below. h (suc k) (omega arith)))

rises : (ps : List Attribute) (is : List ℕ)
    → ((j k : ℕ) (d : ℕ) → j ≤ k → k < length is
    → before ps (get_or is k d) (get_or is j d) ≡ false) → Rises ps is
rises ps [] h = tt
rises ps (i ∷ is) h = (
  each_below ps i is (λ k below. h 0 (suc k) i (omega arith) (omega arith)),
  rises ps is (λ j k d le below. h (suc j) (suc k) d (omega arith) (omega arith)),
)

reversed : (o : Ordering) → is_lt o ≡ false → is_gt (ordering_reverse o) ≡ false
reversed Less h = h
reversed Equal h = refl
reversed Greater h = refl

neither : (o : Ordering) → (not (is_lt (ordering_reverse o)) && not (is_lt o)) ≡ is_eq o
neither Less = refl
neither Equal = refl
neither Greater = refl

lt_back : (j k : List ℕ) → is_lt (cmp j k) ≡ false → is_gt (cmp k j) ≡ false
lt_back j k h = ap is_gt (nat_list_cmp_total.antisymm k j) ∙ reversed (cmp j k) h

below_somes_at : (ps : List Attribute) (i : ℕ) (p : Attribute) → slice_get ps i ≡ Some p
    → (j : ℕ) (is : List ℕ) → NoneAbove ps i (j ∷ is)
    → AllByRecursion (λ q. is_gt (cmp p.0 q.0) ≡ false) (somes (map (slice_get ps) is))
    → (o : Option Attribute) → slice_get ps j ≡ o
    → AllByRecursion (λ q. is_gt (cmp p.0 q.0) ≡ false) (somes (o ∷ map (slice_get ps) is))
below_somes_at ps i p e j is h more None at = more
below_somes_at ps i p e j is h more (Some q) at = (
  lt_back q.0 p.0 ((λ t. is_lt
      (option_cmp cmp (option_map (λ r. r.0) (sym at t)) (option_map (λ r. r.0) (sym e t))))
      ∙ h.0),
  more,
)

below_somes : (ps : List Attribute) (i : ℕ) (p : Attribute) → slice_get ps i ≡ Some p
    → (is : List ℕ) → NoneAbove ps i is
    → AllByRecursion (λ q. is_gt (cmp p.0 q.0) ≡ false) (somes (map (slice_get ps) is))
below_somes ps i p e [] h = tt
below_somes ps i p e (j ∷ is) h =
    below_somes_at ps i p e j is h (below_somes ps i p e is h.1) (slice_get ps j) refl

rising_somes_at : (ps : List Attribute) (i : ℕ) (is : List ℕ) → NoneAbove ps i is
    → IsRising (somes (map (slice_get ps) is)) → (o : Option Attribute) → slice_get ps i ≡ o
    → IsRising (somes (o ∷ map (slice_get ps) is))
rising_somes_at ps i is h more None e = more
rising_somes_at ps i is h more (Some p) e = (below_somes ps i p e is h, more)

rising_somes : (ps : List Attribute) (is : List ℕ) → Rises ps is
    → IsRising (somes (map (slice_get ps) is))
rising_somes ps [] h = tt
rising_somes ps (i ∷ is) h =
    rising_somes_at ps i is h.0 (rising_somes ps is h.1) (slice_get ps i) refl

-- ---- under a key
abbrev found : List ℕ → Option Attribute → Bool
found k None = false
found k (Some p) = has_key k p

filter_somes_at : (k : List ℕ) (g : ℕ
    → Option Attribute) (i : ℕ) (is rest : List ℕ) (p : Attribute) (b : Bool) → g i ≡ Some p
    → filter (has_key k) (somes (map g is)) ≡ somes (map g rest)
    → cond b (p ∷ filter (has_key k) (somes (map g is))) (filter (has_key k) (somes (map g is)))
    ≡ somes (map g (cond b (i ∷ rest) rest))
filter_somes_at k g i is rest p true e h = rw e (ap (λ qs. p ∷ qs) h)
filter_somes_at k g i is rest p false e h = h

filter_somes_step : (k : List ℕ) (g : ℕ → Option Attribute) (i : ℕ) (is rest : List ℕ)
    → filter (has_key k) (somes (map g is)) ≡ somes (map g rest) → (o : Option Attribute) → g i ≡ o
    → filter (has_key k) (somes (o ∷ map g is)) ≡ somes (map g (cond (found k o) (i ∷ rest) rest))
filter_somes_step k g i is rest h None e = h
filter_somes_step k g i is rest h (Some p) e = filter_somes_at k g i is rest p (has_key k p) e h

filter-somes : (k : List ℕ) (g : ℕ → Option Attribute) (is : List ℕ)
    → filter (has_key k) (somes (map g is)) ≡ somes (map g (filter (λ i. found k (g i)) is))
filter-somes k g [] = refl
filter-somes k g (i ∷ is) =
    filter_somes_step k g i is (filter (λ j. found k (g j)) is) (filter-somes k g is) (g i) refl

-- one that passes, or none
first_at : (t : ℕ → Bool) (i : ℕ) (is : List ℕ) (b : Bool) → t i ≡ b
    → ((j : ℕ) × (t j ≡ true)) ⊎ (filter t is ≡ [])
    → ((j : ℕ) × (t j ≡ true)) ⊎ (cond b (i ∷ filter t is) (filter t is) ≡ [])
first_at t i is true e more = inl (i, e)
first_at t i is false e more = more

first_of_test : (t : ℕ → Bool) (is : List ℕ) → ((i : ℕ) × (t i ≡ true)) ⊎ (filter t is ≡ [])
first_of_test t [] = inr refl
first_of_test t (i ∷ is) = first_at t i is (t i) refl (first_of_test t is)

tie_is : (k : List ℕ) (o : Option Attribute)
    → (not (is_lt (option_cmp cmp (Some k) (option_map (λ p. p.0) o)))
    && not (is_lt (option_cmp cmp (option_map (λ p. p.0) o) (Some k)))) ≡ found k o
tie_is k None = refl
tie_is k (Some p) =
    ap (λ o. not (is_lt o) && not (is_lt (cmp p.0 k))) (nat_list_cmp_total.antisymm k p.0)
    ∙ neither (cmp p.0 k) ∙ is_eq-slice_cmp p.0 k

found_key : (k : List ℕ) (o : Option Attribute) → found k o ≡ true
    → option_map (λ p. p.0) o ≡ Some k
found_key k None h = absurd (true≢false (sym h))
found_key k (Some p) h = ap (λ j. Some j) (key_is k p h)

ties_found : (ps : List Attribute) (k : List ℕ) (i : ℕ) → found k (slice_get ps i) ≡ true → (j : ℕ)
    → ties (before ps) i j ≡ found k (slice_get ps j)
ties_found ps k i h j =
    ap (λ o. not (is_lt (option_cmp cmp o (key_at ps j)))
    && not (is_lt (option_cmp cmp (key_at ps j) o))) (found_key k (slice_get ps i) h)
    ∙ tie_is k (slice_get ps j)

same_found : (ps : List Attribute) (k : List ℕ) (old new : List ℕ) → IsStableBy (before ps) old new
    → (i : ℕ) → found k (slice_get ps i) ≡ true
    → filter (λ j. found k (slice_get ps j)) new ≡ filter (λ j. found k (slice_get ps j)) old
same_found ps k old new stable i h =
    let one : ties (before ps) i ≡ (λ j. found k (slice_get ps j)) =
    λ at j. ties_found ps k i h j at in
    ap (λ t. filter t new) (sym one) ∙ stable i ∙ ap (λ t. filter t old) one

filter_stays_at : (ps : List Attribute) (k : List ℕ) (old new : List ℕ)
    → IsStableBy (before ps) old new
    → ((i : ℕ) × (found k (slice_get ps i) ≡ true)) ⊎ (filter (λ j. found k (slice_get ps j)) new
    ≡ [])
    → ((i : ℕ) × (found k (slice_get ps i) ≡ true)) ⊎ (filter (λ j. found k (slice_get ps j)) old
    ≡ [])
    → filter (λ j. found k (slice_get ps j)) new ≡ filter (λ j. found k (slice_get ps j)) old
filter_stays_at ps k old new stable (inl at) other = same_found ps k old new stable at.0 at.1
filter_stays_at ps k old new stable (inr none) (inl at) = same_found ps k old new stable at.0 at.1
filter_stays_at ps k old new stable (inr none) (inr no_more) = none ∙ sym no_more

filter_stays : (ps : List Attribute) (k : List ℕ) (old new : List ℕ)
    → IsStableBy (before ps) old new
    → filter (λ j. found k (slice_get ps j)) new ≡ filter (λ j. found k (slice_get ps j)) old
filter_stays ps k old new stable =
    filter_stays_at ps k old new stable (first_of_test (λ j. found k (slice_get ps j)) new)
    (first_of_test (λ j. found k (slice_get ps j)) old)

-- ---- the key order
pub sorted_positions : (ps : List Attribute) (old new : List ℕ)
    → map (slice_get ps) old ≡ map (λ p. Some p) ps → IsPermutation old new
    → IsSortedBy (before ps) new → IsStableBy (before ps) old new → IsKeyOrder ps new
sorted_positions ps old new all moved sorted stable =
    let g : ℕ → Option Attribute = slice_get ps in
    let qs : List Attribute = somes (map g new) in
    let there : list_any is_none (map g new) ≡ false =
    any-map g new ∙ sym (list_any-IsPermutation (λ i. is_none (g i)) old new moved)
    ∙ sym (any-map g old) ∙ ap (list_any is_none) all ∙ none_missing ps in
    let up : IsRising qs =
    rising_somes ps new (rises ps new
    (λ j k d. sorted_far (before ps) (before-IsStrictWeakOrder ps) new sorted j k d)) in
    let same : (k : List ℕ) → filter (has_key k) qs ≡ filter (has_key k) ps = λ k.
    filter-somes k g new ∙ ap (λ is. somes (map g is)) (filter_stays ps k old new stable)
    ∙ sym (filter-somes k g old) ∙ ap (λ os. filter (has_key k) (somes os)) all
    ∙ ap (filter (has_key k)) (somes-map-Some ps) in
    all_there (map g new) there ∙ ap (map (λ p. Some p)) (is_in_key_order qs ps up same)

-- one more position, before the sort
pub positions_more : (ps : List Attribute) (is js : List ℕ) (i : ℕ) → js ≡ is ++ i ∷ []
    → i < length ps → map (slice_get ps) is ≡ map (λ p. Some p) (take i ps)
    → map (slice_get ps) js ≡ map (λ p. Some p) (take (i + 1) ps)
positions_more ps is js i pushed below before =
    let none : Attribute = ([], boolean false) in
    ap (map (slice_get ps)) pushed ∙ map_push (slice_get ps) is i
    ∙ (λ at. before at ++ slice_get-get_or ps i none below at ∷ [])
    ∙ sym (map_push (λ p. Some p) (take i ps) (get_or ps i none))
    ∙ ap (map (λ p. Some p)) (sym (take_more ps i none below))
