-- One more step of an iteration over a list.
use Rattle.std.proofs.Common.{◌≡◌, ℕ, zero, suc, ◌+◌, ◌<◌, ◌≤◌, List, [], ◌∷◌, ◌++◌, length, take, drop, get_or, fold}
use Rattle.std.proofs.Common.{Some, inl, inr, ◌⊎◌, refl, sym, ap, ◌∙◌, arith}
use Rattle.std.specs.List.{flat_map, slice_get}
use Rattle.std.proofs.lemmas.Bool.{cases_lt}
use Rattle.std.proofs.lemmas.List.{take_more, drop_more, take-append-drop, take_all, append-nil, length-append}
use Rattle.std.proofs.lemmas.List.Sums.{fold-append}
use Rattle.std.proofs.lemmas.List.Concat.{flat_map-append}
use Rattle.std.proofs.lemmas.Option.{slice_get_within}

-- the rest of the list begins with the next element
pub next_element : {X : Type 0} (xs : List X) (n : ℕ) (x : X) → (n < length xs) × (x ≡ get_or xs n x)
    → drop n xs ≡ x ∷ drop (n + 1) xs
next_element xs n x h = drop_more xs n x h.0 ∙ ap (λ y. y ∷ drop (n + 1) xs) (sym h.1)

pub slice_get-append : {X : Type 0} (xs ys : List X) (i : ℕ) → i < length xs → slice_get (xs ++ ys) i ≡ slice_get xs i
slice_get-append [] ys i h = absurd (omega arith)
slice_get-append (x ∷ xs) ys zero h = refl
slice_get-append (x ∷ xs) ys (suc i) h = slice_get-append xs ys i (omega arith)

pub slice_get-append_end : {X : Type 0} (xs : List X) (y : X) → slice_get (xs ++ y ∷ []) (length xs) ≡ Some y
slice_get-append_end [] y = refl
slice_get-append_end (x ∷ xs) y = slice_get-append_end xs y

-- an element below the next index is the element at the index, or an earlier one
pub last_or_before : {X : Type 0} (xs : List X) (y : X) (i : ℕ) (x : X) → slice_get (xs ++ y ∷ []) i ≡ Some x → (i < length xs) ⊎ ((i ≡ length xs) × (y ≡ x))
last_or_before xs y i x at = elim (cases_lt i (length xs)) [
  | inl h ↦ inl h
  | inr h ↦
      let w : i < length (xs ++ y ∷ []) = slice_get_within (xs ++ y ∷ []) i x at in
      let e : i ≡ length xs = omega (arith, w, length-append xs (y ∷ [])) in
      let s : Some y ≡ Some x = sym (slice_get-append_end xs y) ∙ ap (λ k. slice_get (xs ++ y ∷ []) k) (sym e) ∙ at in
      inr (e, cc)
]

module _ {X A : Type 0} (f : X → List A) where
  pub flat_map-take_more : (xs : List X) (i : ℕ) (x : X) → i < length xs → x ≡ get_or xs i x → flat_map f (take (i + 1) xs) ≡ flat_map f (take i xs) ++ f x
  flat_map-take_more xs i x h is =
      ap (flat_map f) (take_more xs i x h) ∙ flat_map-append f (take i xs) (get_or xs i x ∷ [])
      ∙ ap (λ r. flat_map f (take i xs) ++ r) (append-nil (f (get_or xs i x)) ∙ ap f (sym is))

  pub flat_map-split : (xs : List X) (i : ℕ) (x : X) → i < length xs → x ≡ get_or xs i x → flat_map f xs ≡ (flat_map f (take i xs) ++ f x) ++ flat_map f (drop (i + 1) xs)
  flat_map-split xs i x h is =
      ap (flat_map f) (sym (take-append-drop (i + 1) xs)) ∙ flat_map-append f (take (i + 1) xs) (drop (i + 1) xs)
      ∙ ap (λ r. r ++ flat_map f (drop (i + 1) xs)) (flat_map-take_more xs i x h is)

-- a step of a chain
pub fold-take_more : {A X : Type 0} (f : A → X → A) (a : A) (xs : List X) (i : ℕ) (x : X) → i < length xs → x ≡ get_or xs i x → fold f a (take (i + 1) xs) ≡ f (fold f a (take i xs)) x
fold-take_more f a xs i x h is = ap (fold f a) (take_more xs i x h) ∙ fold-append f a (take i xs) (get_or xs i x ∷ []) ∙ ap (f (fold f a (take i xs))) (sym is)

pub fold_all : {A X : Type 0} (f : A → X → A) (a b : A) (xs ys : List X) (i : ℕ) → xs ≡ ys → length xs ≤ i → b ≡ fold f a (take i xs) → b ≡ fold f a ys
fold_all f a b xs ys i same h is = is ∙ ap (fold f a) (take_all i xs h ∙ same)
