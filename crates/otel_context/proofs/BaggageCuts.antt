-- Two texts that are cut at the same byte.
use Rattle.std.proofs.Common.{◌≡◌, ℕ, true, List, [], ◌∷◌, ◌++◌, refl}
use Rattle.std.specs.Prelude.{not, ◌==◌}
use Rattle.std.specs.List.{list_all}
use Rattle.std.proofs.lemmas.Bool.{and_parts, not-true, both_ways, eq-eqb}

-- the byte isn't in the text
abbrev pub Lacks : ℕ → List ℕ → Type 0
Lacks c xs = list_all (λ b. not (b == c)) xs ≡ true

not_first : (c x : ℕ) (xs : List ℕ) → Lacks c (x ∷ xs) → x ≡ c → ⊥
not_first c x xs h e = both_ways (x == c) (not-true (x == c) (and_parts (not (x == c)) (list_all (λ b. not (b == c)) xs) h).0) (eq-eqb x c e)

lacks_rest : (c x : ℕ) (xs : List ℕ) → Lacks c (x ∷ xs) → Lacks c xs
lacks_rest c x xs h = (and_parts (not (x == c)) (list_all (λ b. not (b == c)) xs) h).1

-- a text that lacks the byte is no text with that byte
pub no_cut : (c : ℕ) (xs ys r : List ℕ) → Lacks c xs → xs ≡ ys ++ (c ∷ r) → ⊥
no_cut c [] [] r h e = absurd (cc)
no_cut c [] (y ∷ ys) r h e = absurd (cc)
no_cut c (x ∷ xs) [] r h e = not_first c x xs h (let i : x ≡ c = cc in i)
no_cut c (x ∷ xs) (y ∷ ys) r h e = no_cut c xs ys r (lacks_rest c x xs h) (let i : xs ≡ ys ++ (c ∷ r) = cc in i)

-- the parts before the byte are equal, and so are the parts after it
pub same_cut : (c : ℕ) (xs ys r s : List ℕ) → Lacks c xs → Lacks c ys → xs ++ (c ∷ r) ≡ ys ++ (c ∷ s) → (xs ≡ ys) × (r ≡ s)
same_cut c [] [] r s h k e = (refl, (cc))
same_cut c [] (y ∷ ys) r s h k e = absurd (not_first c y ys k (let i : y ≡ c = cc in i))
same_cut c (x ∷ xs) [] r s h k e = absurd (not_first c x xs h (let i : x ≡ c = cc in i))
same_cut c (x ∷ xs) (y ∷ ys) r s h k e =
    let i : x ≡ y = cc in
    let j : xs ++ (c ∷ r) ≡ ys ++ (c ∷ s) = cc in
    let rest = same_cut c xs ys r s (lacks_rest c x xs h) (lacks_rest c y ys k) j in
    let f = rest.0 in
    ((cc), rest.1)
