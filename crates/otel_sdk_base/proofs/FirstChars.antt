-- The first characters of a text.
use Rattle.std.proofs.Common.{◌≡◌, ℕ, ◌+◌, ◌-◌, ◌<◌, ◌≤◌, Bool, true, false, cond, List, [], ◌∷◌, ◌++◌}
use Rattle.std.proofs.Common.{length, take, drop, get_or, refl, arith, add-one, append_assoc}
use Rattle.std.proofs.Common.{append-nil}
use Rattle.std.proofs.lemmas.Bool.{ne_eqb}
use Rattle.std.proofs.Math.Dec.{eqb}
use Rattle.std.proofs.Math.Seq.{drop-cons, take-suc, take_all}
use Rattle.std.proofs.Math.ListN.{drop_of_length-le}
use Rattle.std.specs.Fmt.{is_char_start, take_chars}

take_chars-nil : (n : ℕ) → take_chars n [] ≡ []
unfolding take_chars
take_chars-nil n = refl

take_chars-cons : (n b : ℕ) (text : List ℕ)
    → take_chars n (b ∷ text) ≡ cond (is_char_start b) (cond (eqb n 0) [] (b ∷ take_chars (n - 1) text)) (b ∷ take_chars n text)
unfolding take_chars
take_chars-cons n b text = refl

module _ (text : List ℕ) (i : ℕ) where
  -- the byte at i begins the first character that is cut off
  pub stops : i < length text → is_char_start (get_or text i 0) ≡ true
      → take i text ++ take_chars 0 (drop i text) ≡ take i text
  stops within starts = rw (drop-cons text i 0 within, take_chars-cons, starts) (append-nil _)

  -- or it is kept, and counts if it begins a character
  pub keeps : (n m : ℕ) (starts : Bool) → i < length text → is_char_start (get_or text i 0) ≡ starts
      → n ≡ cond starts 1 0 + m
      → take (i + 1) text ++ take_chars m (drop (i + 1) text) ≡ take i text ++ take_chars n (drop i text)
  keeps n m true within is count =
      let left : n - 1 ≡ m = omega arith in
      let some = ne_eqb n 0 (omega arith) in
      rw (add-one, take-suc text i 0 within, append_assoc, drop-cons text i 0 within, take_chars-cons, is, some, left) refl
  keeps n m false within is count =
      let left : n ≡ m = omega arith in
      rw (add-one, take-suc text i 0 within, append_assoc, drop-cons text i 0 within, take_chars-cons, is, left) refl

  -- past the end nothing is left
  pub ends : (n : ℕ) → length text ≤ i → take i text ++ take_chars n (drop i text) ≡ text
  ends n past = rw (take_all i text past, drop_of_length-le text past, take_chars-nil) (append-nil text)
