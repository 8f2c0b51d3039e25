-- Lists of live attachments whose positions rise.
use Rattle.std.proofs.Common.{◌≡◌, ℕ, zero, suc, ◌+◌, ◌<◌, ◌≤◌, true, false, List, [], ◌∷◌, ◌++◌, length, refl, sym, ap, ◌∙◌, arith, inl, inr}
use Rattle.std.specs.Prelude.{◌==◌, not, filter}
use Rattle.std.specs.List.{range_with_len}
use Rattle.std.proofs.lemmas.Bool.{cases_Bool, cases_lt, ne_eqb, eq-eqb}
use Rattle.otel_context.specs.Context.{ContextRecord}
use Rattle.otel_context.specs.Stack.{Live, last_or, newest_position, detach, RisesAbove, positions, is_live, emptied_of}

-- the last of a list with one more at its end
pub last_or-push : {X : Type 0} (d : X) (xs : List X) (x : X) → last_or d (xs ++ x ∷ []) ≡ x
last_or-push d [] x = refl
last_or-push d (y ∷ xs) x = last_or-push y xs x

-- a list that rises from above `p` ends no lower than its length above it
pub length-RisesAbove : (p : ℕ) (xs : List ℕ) → RisesAbove p xs → p + length xs ≤ last_or p xs
length-RisesAbove p [] r = omega arith
length-RisesAbove p (x ∷ xs) r = omega (arith, length-RisesAbove x xs r.1, r.0)

-- if the positions rise from above `q`, no position at or below `q` is live
is_live-below : (q p : ℕ) (xs : Live) → RisesAbove q (positions xs) → p ≤ q → is_live p xs ≡ false
is_live-below q p [] r h = refl
is_live-below q p (x ∷ xs) r h =
    let other : (x.0 == p) ≡ false = ne_eqb x.0 p (λ e. omega (arith, r.0, e)) in
    rw other (is_live-below x.0 p xs r.1 (omega (arith, r.0)))

-- above `x`, the test for positions that aren't live can skip `x`
dead-above : (x : ℕ × ContextRecord) (xs : Live) (a n : ℕ) → x.0 < a → filter (λ p. not (is_live p (x ∷ xs))) (range_with_len a n) ≡ filter (λ p. not (is_live p xs)) (range_with_len a n)
dead-above x xs a zero h = refl
dead-above x xs a (suc n) h =
    let other : (x.0 == a) ≡ false = ne_eqb x.0 a (λ e. omega arith) in
    rw (other, dead-above x xs (a + 1) n (omega arith)) refl

-- the positions above `q` up to the last are live or not
heights_above : (q n : ℕ) (xs : Live) → RisesAbove q (positions xs) → last_or q (positions xs) ≡ q + n
    → length (filter (λ p. not (is_live p xs)) (range_with_len (q + 1) n)) + length xs ≡ n
heights_above q zero [] r e = refl
heights_above q zero (x ∷ xs) r e = absurd (omega (arith, r.0, e, length-RisesAbove x.0 (positions xs) r.1))
heights_above q (suc n) [] r e = absurd (omega arith)
heights_above q (suc n) (x ∷ xs) r e = elim (cases_lt (q + 1) x.0) [
  | inl h ↦
      let up : RisesAbove (q + 1) (positions (x ∷ xs)) = (h, r.1) in
      let dead : is_live (q + 1) (x ∷ xs) ≡ false = is_live-below (q + 1) (q + 1) (x ∷ xs) up (omega arith) in
      let ih = heights_above (q + 1) n (x ∷ xs) up (omega (arith, e)) in
      rw dead (omega (arith, ih))
  | inr h ↦
      let same : x.0 ≡ q + 1 = omega (arith, r.0) in
      let here : (x.0 == q + 1) ≡ true = eq-eqb x.0 (q + 1) same in
      let last : last_or (q + 1) (positions xs) ≡ (q + 1) + n = ap (λ k. last_or k (positions xs)) (sym same) ∙ e ∙ omega arith in
      let ih = heights_above (q + 1) n xs (rw same at r.1) last in
      rw (here, dead-above x xs (q + 1 + 1) n (omega arith)) (omega (arith, ih))
]

-- each position up to the newest is live or an emptied slot
pub heights : (xs : Live) → RisesAbove 0 (positions xs) → emptied_of xs + length xs ≡ newest_position xs
heights xs r = heights_above 0 (newest_position xs) xs r (omega arith)

-- a greater number may come last
pub RisesAbove-push : (p : ℕ) (xs : List ℕ) (x : ℕ) → RisesAbove p xs → last_or p xs < x → RisesAbove p (xs ++ x ∷ [])
RisesAbove-push p [] x r h = (h, tt)
RisesAbove-push p (y ∷ xs) x r h = (r.0, RisesAbove-push y xs x r.1 h)

-- a list that rises from above a number rises from above a lower one
pub RisesAbove-below : (q p : ℕ) (xs : List ℕ) → q ≤ p → RisesAbove p xs → RisesAbove q xs
RisesAbove-below q p [] h r = tt
RisesAbove-below q p (x ∷ xs) h r = (omega (arith, r.0), r.1)

-- no position above `q` is one at or below it
pub detach-above : (q p : ℕ) (xs : Live) → RisesAbove q (positions xs) → p ≤ q → detach p xs ≡ xs
detach-above q p [] r h = refl
detach-above q p (x ∷ xs) r h =
    let above : q < x.0 = r.0 in
    let other : (x.0 == p) ≡ false = ne_eqb x.0 p (λ e. omega arith) in
    rw other (ap (λ (l : Live). x ∷ l) (detach-above x.0 p xs r.1 (omega arith)))

-- removing a position leaves the others in order
pub RisesAbove-detach : (q p : ℕ) (xs : Live) → RisesAbove q (positions xs) → RisesAbove q (positions (detach p xs))
RisesAbove-detach q p [] r = tt
RisesAbove-detach q p (x ∷ xs) r = elim (cases_Bool (x.0 == p)) [
  | inl t ↦ rw t (RisesAbove-detach q p xs (RisesAbove-below q x.0 (positions xs) (omega (arith, r.0)) r.1))
  | inr f ↦ rw f (r.0, RisesAbove-detach x.0 p xs r.1)
]
