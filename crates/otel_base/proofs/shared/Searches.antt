-- Whether a byte of a text passes a test, and the text cut at the first such byte.
use Rattle.std.proofs.Common.{◌≡◌, ℕ, ◌+◌, ◌<◌, Bool, true, false, List, [], ◌∷◌, ◌++◌, length, take, drop, get_or, refl, subst, sym, ap, ◌∙◌, arith, All, inl, inr}
use Rattle.std.specs.Prelude.{not, IsUtf8}
use Rattle.std.specs.List.{list_all, list_any, position_or_len, before_first, after_first}
use Rattle.std.proofs.lemmas.Bool.{cases_Bool, false≢true, and_parts, and_from, or_parts, or_from, or_left, or_right, not-true, not_from_false}
use Rattle.std.proofs.Math.Seq.{take-append_seam, drop-append-add, get_or-append_seam}
use Rattle.std.proofs.lemmas.List.{take_all, drop_all}
use Rattle.std.proofs.lemmas.List.Folds.{list_all-append}
use Rattle.std.proofs.lemmas.List.Sums.{AllPass-from_list_all, list_all-from_AllPass, split_at_first, passes_at_first}
use Rattle.std.proofs.lemmas.Str.{IsUtf8-nil, IsUtf8-take, IsUtf8-drop, IsCharBoundary-before_ascii, IsCharBoundary-after_ascii}

module _ (p : ℕ → Bool) where
  pub none_append : (xs ys : List ℕ) → list_any p xs ≡ false → list_any p ys ≡ false → list_any p (xs ++ ys) ≡ false
  none_append [] ys a b = b
  none_append (x ∷ xs) ys a b = let s = or_parts (p x) (list_any p xs) a in or_from (p x) (list_any p (xs ++ ys)) s.0 (none_append xs ys s.1 b)

  pub some_at : (xs : List ℕ) (y : ℕ) (ys : List ℕ) → p y ≡ true → list_any p (xs ++ y ∷ ys) ≡ true
  some_at [] y ys t = or_left (p y) (list_any p ys) t
  some_at (x ∷ xs) y ys t = or_right (p x) (list_any p (xs ++ y ∷ ys)) (some_at xs y ys t)

  pub none_from_all : (q : ℕ → Bool) (apart : (b : ℕ) → q b ≡ true → p b ≡ false) (xs : List ℕ) → list_all q xs ≡ true → list_any p xs ≡ false
  none_from_all q apart [] h = refl
  none_from_all q apart (x ∷ xs) h = let a = and_parts (q x) (list_all q xs) h in or_from (p x) (list_any p xs) (apart x a.0) (none_from_all q apart xs a.1)

  all_not : (xs : List ℕ) → list_any p xs ≡ false → list_all (λ b. not (p b)) xs ≡ true
  all_not [] h = refl
  all_not (x ∷ xs) h = let a = or_parts (p x) (list_any p xs) h in and_from (not (p x)) (list_all (λ b. not (p b)) xs) (not_from_false (p x) a.0) (all_not xs a.1)

  pub none_from_not : (xs : List ℕ) → list_all (λ b. not (p b)) xs ≡ true → list_any p xs ≡ false
  none_from_not xs h = none_from_all (λ b. not (p b)) (λ b e. not-true (p b) e) xs h

  pub none_All : (xs : List ℕ) → list_any p xs ≡ false → All (λ b. p b ≡ false) xs
  none_All xs h = λ k d l. not-true _ (AllPass-from_list_all (λ b. not (p b)) xs (all_not xs h) k d l)

  pub place_none : (xs : List ℕ) → list_any p xs ≡ false → position_or_len p xs ≡ length xs
  place_none [] h = refl
  place_none (x ∷ xs) h = let a = or_parts (p x) (list_any p xs) h in let e = place_none xs a.1 in rw a.0 (omega arith)

  pub place_at : (xs : List ℕ) (y : ℕ) (ys : List ℕ) → list_any p xs ≡ false → p y ≡ true → position_or_len p (xs ++ y ∷ ys) ≡ length xs
  place_at [] y ys h t = rw t refl
  place_at (x ∷ xs) y ys h t = let a = or_parts (p x) (list_any p xs) h in let e = place_at xs y ys a.1 t in rw a.0 (omega arith)

  pub before_at : (xs : List ℕ) (y : ℕ) (ys : List ℕ) → list_any p xs ≡ false → p y ≡ true → before_first p (xs ++ y ∷ ys) ≡ xs
  before_at xs y ys h t = ap (λ (n : ℕ). take n (xs ++ y ∷ ys)) (place_at xs y ys h t) ∙ take-append_seam xs (y ∷ ys)

  pub after_at : (xs : List ℕ) (y : ℕ) (ys : List ℕ) → list_any p xs ≡ false → p y ≡ true → after_first p (xs ++ y ∷ ys) ≡ ys
  after_at xs y ys h t = ap (λ (n : ℕ). drop (n + 1) (xs ++ y ∷ ys)) (place_at xs y ys h t) ∙ drop-append-add xs (y ∷ ys) 1

  pub before_none : (xs : List ℕ) → list_any p xs ≡ false → before_first p xs ≡ xs
  before_none xs h = let e = place_none xs h in take_all (position_or_len p xs) xs (omega arith)

  pub after_none : (xs : List ℕ) → list_any p xs ≡ false → after_first p xs ≡ []
  after_none xs h = let e = place_none xs h in drop_all (position_or_len p xs + 1) xs (omega arith)

-- ---- the result of a search

pub list_any_none : (p : ℕ → Bool) (xs : List ℕ) → position_or_len p xs ≡ length xs → list_any p xs ≡ false
list_any_none p [] e = refl
list_any_none p (x ∷ xs) e =
    elim (cases_Bool (p x)) [
      | inl t ↦ let zero_is : position_or_len p (x ∷ xs) ≡ 0 = rw t refl in absurd (omega arith)
      | inr f ↦ let more : position_or_len p (x ∷ xs) ≡ 1 + position_or_len p xs = rw f refl in rw f (list_any_none p xs (omega arith))
    ]

pub list_all-weaker : (p q : ℕ → Bool) (weaker : (b : ℕ) → p b ≡ true → q b ≡ true) (xs : List ℕ) → list_all p xs ≡ true → list_all q xs ≡ true
list_all-weaker p q weaker xs h = list_all-from_AllPass q xs (λ k d l. weaker _ (AllPass-from_list_all p xs h k d l))

pub place_of_any : (p : ℕ → Bool) (xs : List ℕ) → list_any p xs ≡ true → position_or_len p xs < length xs
place_of_any p [] h = absurd (false≢true h)
place_of_any p (x ∷ xs) h =
    elim (cases_Bool (p x)) [
      | inl t ↦ rw t (omega arith)
      | inr f ↦ let g : list_any p xs ≡ true = rw f at h in let i = place_of_any p xs g in rw f (omega arith)
    ]

pub list_all-both : (p : ℕ → Bool) (xs ys : List ℕ) → list_all p xs ≡ true → list_all p ys ≡ true → list_all p (xs ++ ys) ≡ true
list_all-both p xs ys h k = list_all-append p xs ys ∙ and_from (list_all p xs) (list_all p ys) h k

pub list_all-left : (p : ℕ → Bool) (xs ys : List ℕ) → list_all p (xs ++ ys) ≡ true → list_all p xs ≡ true
list_all-left p xs ys h = (and_parts (list_all p xs) (list_all p ys) (sym (list_all-append p xs ys) ∙ h)).0

-- ---- a text that is cut at an ASCII byte

inside : (xs : List ℕ) (y : ℕ) (ys : List ℕ) → length xs < length (xs ++ y ∷ ys)
inside [] y ys = omega arith
inside (x ∷ xs) y ys = let h = inside xs y ys in omega arith

-- both parts are UTF-8
pub utf8_cut : (xs : List ℕ) (y : ℕ) (ys : List ℕ) → y < 128 → IsUtf8 (xs ++ y ∷ ys) → IsUtf8 xs × IsUtf8 ys
utf8_cut xs y ys small u =
    let all = xs ++ y ∷ ys in
    let ascii : get_or all (length xs) 0 < 128 = omega (arith, get_or-append_seam xs y ys 0) in
    let l = inside xs y ys in (
      subst IsUtf8 (take-append_seam xs (y ∷ ys)) (IsUtf8-take all (length xs) u (IsCharBoundary-before_ascii all (length xs) l ascii)),
      subst IsUtf8 (drop-append-add xs (y ∷ ys) 1) (IsUtf8-drop all (length xs + 1) u (IsCharBoundary-after_ascii all (length xs) u l ascii)),
    )

-- the text after the first such byte is UTF-8
pub utf8_after : (p : ℕ → Bool) (small : (b : ℕ) → p b ≡ true → b < 128) (xs : List ℕ) → IsUtf8 xs → IsUtf8 (after_first p xs)
utf8_after p small xs u =
    elim (cases_Bool (list_any p xs)) [
      | inl t ↦ let place = place_of_any p xs t in
          let y = get_or xs (position_or_len p xs) 0 in
          (utf8_cut (before_first p xs) y (after_first p xs) (small y (passes_at_first p xs 0 place)) (subst IsUtf8 (split_at_first p xs 0 place) u)).1
      | inr f ↦ subst IsUtf8 (sym (after_none p xs f)) IsUtf8-nil
    ]
