-- Starts in order.
use Rattle.std.proofs.Common.{◌≡◌, ℕ, suc, ◌+◌, ◌<◌, ◌≤◌, Bool, true, false, List, [], ◌∷◌, length, get_or, refl, sym, ap, ◌∙◌, arith, cond, subst, lit≤}
use Rattle.std.specs.Prelude.{count_by, sum_by}
use Rattle.std.specs.Ordering.{is_lt, nat_cmp, ordering_then}
use Rattle.std.specs.List.Sorted.{IsPermutation, IsSortedBy}
use Rattle.std.proofs.lemmas.Bool.Decides.{nat_tests}
use Rattle.std.proofs.lemmas.Cmp.{nat_cmp_total, on_total, then_total}
use Rattle.std.proofs.lemmas.List.Sorted.{sum_by-IsPermutation, sorted_far, ranks_by}
use Rattle.std.proofs.lemmas.List.Sums.{sum_by-cons, sum_by-le-sum_by}
use Rattle.otel_waterfall.specs.Rows.{is_before, with_start, in_order}

-- ---- the order
before_is_lt : (a b : ℕ × ℕ) → is_lt (ordering_then (nat_cmp a.0 b.0) (nat_cmp a.1 b.1)) ≡ is_before a b
before_is_lt a b = grind (arith, nat_tests)

not_before_itself : (a : ℕ × ℕ) → is_before a a ≡ false
not_before_itself a = grind (arith, nat_tests)

not_back : (a b : ℕ × ℕ) → is_before a b ≡ true → is_before b a ≡ false
not_back a b h = grind (arith, nat_tests)

before_later : (a b c : ℕ × ℕ) → is_before b c ≡ false → is_before a c ≡ true → is_before a b ≡ true
before_later a b c h k = grind (arith, nat_tests)

same_parts : (a b : ℕ × ℕ) → a.0 ≡ b.0 → a.1 ≡ b.1 → a ≡ b
same_parts a b e f = ap (λ (x : ℕ). let p : ℕ × ℕ = (x, a.1) in p) e ∙ ap (λ (y : ℕ). let p : ℕ × ℕ = (b.0, y) in p) f

neither_before : (a b : ℕ × ℕ) → is_before a b ≡ false → is_before b a ≡ false → a ≡ b
neither_before a b h k = same_parts a b (grind (arith, nat_tests)) (grind (arith, nat_tests))

-- ---- lists in which no later start is before an earlier one
-- how many starts are before a start
abbrev earlier : (ℕ × ℕ) → List (ℕ × ℕ) → ℕ
earlier a xs = count_by (λ b. is_before b a) xs

abbrev Rises : List (ℕ × ℕ) → Type 0
Rises [] = Unit {0}
Rises (a ∷ more) = (earlier a more ≡ 0) × Rises more

-- one start more, wherever it goes
sum_with_start : (f : ℕ × ℕ → ℕ) (a : ℕ × ℕ) (xs : List (ℕ × ℕ)) → sum_by f (with_start a xs) ≡ f a + sum_by f xs
sum_with_start f a [] = sum_by-cons f a []
sum_with_start f a (b ∷ more) =
    let at : Bool → List (ℕ × ℕ) = λ (t : Bool). cond t (b ∷ with_start a more) (a ∷ b ∷ more) in
    let both : (t : Bool) → sum_by f (at t) ≡ f a + sum_by f (b ∷ more) =
    λ (t : Bool). elim t as (λ v. sum_by f (at v) ≡ f a + sum_by f (b ∷ more)) [
      | true ↦ omega (arith, sum_by-cons f b (with_start a more), sum_by-cons f b more, sum_with_start f a more)
      | false ↦ sum_by-cons f a (b ∷ more)
    ] in
    both (is_before b a)

sum_in_order : (f : ℕ × ℕ → ℕ) (xs : List (ℕ × ℕ)) → sum_by f (in_order xs) ≡ sum_by f xs
sum_in_order f [] = refl
sum_in_order f (a ∷ more) = sum_with_start f a (in_order more) ∙ ap (λ (n : ℕ). f a + n) (sum_in_order f more) ∙ sym (sum_by-cons f a more)

count_le : (s t : Bool) → (s ≡ true → t ≡ true) → cond s 1 0 ≤ cond t 1 0
count_le true t h = let e : t ≡ true = h refl in rw e (lit≤ tt)
count_le false t h = omega arith

count_none : (t : Bool) (n : ℕ) → cond t 1 0 + n ≡ 0 → t ≡ false
count_none true n h = absurd (omega (arith, h))
count_none false n h = refl

earlier_more : (a b : ℕ × ℕ) (xs : List (ℕ × ℕ)) → earlier a (b ∷ xs) ≡ cond (is_before b a) 1 0 + earlier a xs
earlier_more a b xs = sum_by-cons (λ (c : ℕ × ℕ). cond (is_before c a) 1 0) b xs

none_earlier : (a b : ℕ × ℕ) (xs : List (ℕ × ℕ)) → is_before b a ≡ false → earlier a xs ≡ 0 → earlier a (b ∷ xs) ≡ 0
none_earlier a b xs h k = earlier_more a b xs ∙ ap (λ (t : Bool). cond t 1 0 + earlier a xs) h ∙ omega (arith, k)

still_none : (a b : ℕ × ℕ) (xs : List (ℕ × ℕ)) → is_before b a ≡ false → earlier b xs ≡ 0 → earlier a xs ≡ 0
still_none a b xs h k =
    let below : earlier a xs ≤ earlier b xs = sum_by-le-sum_by (λ (c : ℕ × ℕ). cond (is_before c a) 1 0) (λ (c : ℕ × ℕ). cond (is_before c b) 1 0) xs
    (λ c. count_le (is_before c a) (is_before c b) (λ e. before_later c b a h e)) in
    omega arith

rises_with : (a : ℕ × ℕ) (xs : List (ℕ × ℕ)) → Rises xs → Rises (with_start a xs)
rises_with a [] r = (refl, tt)
rises_with a (b ∷ more) r =
    let at : Bool → List (ℕ × ℕ) = λ (t : Bool). cond t (b ∷ with_start a more) (a ∷ b ∷ more) in
    let both : (t : Bool) → is_before b a ≡ t → Rises (at t) =
    λ (t : Bool). elim t as (λ v. is_before b a ≡ v → Rises (at v)) [
      | true ↦ λ e. (sum_with_start (λ (c : ℕ × ℕ). cond (is_before c b) 1 0) a more ∙ ap (λ (t : Bool). cond t 1 0 + earlier b more) (not_back b a e) ∙ omega (arith, r.0), rises_with a more r.1)
      | false ↦ λ e. (none_earlier a b more e (still_none a b more e r.0), r)
    ] in
    both (is_before b a) refl

rises_in_order : (xs : List (ℕ × ℕ)) → Rises (in_order xs)
rises_in_order [] = tt
rises_in_order (a ∷ more) = rises_with a (in_order more) (rises_in_order more)

-- two such lists of the same starts are one
same_rising : (xs ys : List (ℕ × ℕ)) → Rises xs → Rises ys → ((f : ℕ × ℕ → ℕ) → sum_by f xs ≡ sum_by f ys) → xs ≡ ys
same_rising [] [] r s h = refl
same_rising [] (y ∷ ys) r s h = absurd (omega (arith, h (λ a. 1), sum_by-cons (λ (a : ℕ × ℕ). 1) y ys))
same_rising (x ∷ xs) [] r s h = absurd (omega (arith, h (λ a. 1), sum_by-cons (λ (a : ℕ × ℕ). 1) x xs))
same_rising (x ∷ xs) (y ∷ ys) r s h =
    let before_y : is_before x y ≡ false = count_none _ (earlier y xs) (sym (earlier_more y x xs) ∙ h (λ c. cond (is_before c y) 1 0) ∙ none_earlier y y ys (not_before_itself y) s.0) in
    let before_x : is_before y x ≡ false = count_none _ (earlier x ys) (sym (earlier_more x y ys) ∙ sym (h (λ c. cond (is_before c x) 1 0)) ∙ none_earlier x x xs (not_before_itself x) r.0) in
    let e : x ≡ y = neither_before x y before_y before_x in
    let tails : (f : ℕ × ℕ → ℕ) → sum_by f xs ≡ sum_by f ys = λ (f : ℕ × ℕ → ℕ). omega (arith, sum_by-cons f x xs, sum_by-cons f y ys, h f, ap f e) in
    ap (λ (z : ℕ × ℕ). z ∷ xs) e ∙ ap (λ (zs : List (ℕ × ℕ)). y ∷ zs) (same_rising xs ys r.1 s.1 tails)

-- ---- a sort
abbrev pub lt : ℕ × ℕ → ℕ × ℕ → Bool
lt a b = is_lt (ordering_then (nat_cmp a.0 b.0) (nat_cmp a.1 b.1))

none_of : (a : ℕ × ℕ) (xs : List (ℕ × ℕ)) → ((k : ℕ) (d : ℕ × ℕ) → k < length xs → lt (get_or xs k d) a ≡ false) → earlier a xs ≡ 0
none_of a [] h = refl
none_of a (b ∷ more) h =
    none_earlier a b more (sym (before_is_lt b a) ∙ h 0 b (omega arith))
    (none_of a more (λ k d below. h (suc k) d (omega arith)))

rises_sorted : (xs : List (ℕ × ℕ)) → IsSortedBy lt xs → Rises xs
rises_sorted [] up = tt
rises_sorted (a ∷ more) up = (
  none_of a more (λ k d below. sorted_far lt (ranks_by (then_total (on_total (λ (p : ℕ × ℕ). p.0) nat_cmp_total) (on_total (λ (p : ℕ × ℕ). p.1) nat_cmp_total)) (λ (p : ℕ × ℕ). p)) (a ∷ more) up 0 (suc k) d (omega arith) (omega arith)),
  rises_sorted more (λ k d low below.
      let e : suc k + 1 ≡ suc (k + 1) = omega arith in
      subst (λ (n : ℕ). lt (get_or (a ∷ more) n d) (get_or more k d) ≡ false) e (up (suc k) d (omega arith) (omega arith))),
)

pub sorted_is : (xs ys : List (ℕ × ℕ)) → IsPermutation xs ys → IsSortedBy lt ys → ys ≡ in_order xs
sorted_is xs ys moved up =
    same_rising ys (in_order xs) (rises_sorted ys up) (rises_in_order xs) (λ f. sum_by-IsPermutation f xs ys moved ∙ sym (sum_in_order f xs))
