-- Digits read one after the other.
use Rattle.std.proofs.Common.{◌≡◌, ℕ, zero, suc, ◌+◌, ◌*◌, ◌/◌, ◌%◌, ◌^◌, ◌<◌, ◌≤◌, true, false, List, [], ◌∷◌, ◌++◌, length, take, get_or, refl, sym, ap, subst, ◌∙◌, arith, pow-suc, Some, None}
use Rattle.std.specs.Fmt.{digit_glyph}
use Rattle.std.specs.List.{list_all}
use Rattle.std.proofs.Math.Nat.{div-div-eq-div-mul, pow-le-pow_right}
use Rattle.std.proofs.lemmas.Bool.{and_from, both_ways, agree_below_at}
use Rattle.std.proofs.lemmas.List.{take_more, take_all}
use Rattle.std.proofs.lemmas.List.Sums.{AllPass-from_list_all}
use Rattle.otel_ids.specs.Ids.{id_text}
use Rattle.otel_propagators.specs.Digits.{is_digit, IsDigitOf, IsNumberOf}

digit_shown : (d : ℕ) → d < 16 → is_digit (digit_glyph false d) ≡ true
digit_shown d h = agree_below_at (λ (x : ℕ). is_digit (digit_glyph false x)) (λ (x : ℕ). true) 16 d refl h

pub all_shown : (k n : ℕ) → list_all is_digit (id_text k n) ≡ true
unfolding id_text
all_shown zero n = refl
all_shown (suc k) n = and_from (is_digit (digit_glyph false (n / 16 ^ k % 16))) (list_all is_digit (id_text k n)) (digit_shown (n / 16 ^ k % 16) (omega arith)) (all_shown k n)

high_same : (k n d : ℕ) → d < 16 → (n * 16 + d) / 16 ^ suc k ≡ n / 16 ^ k
high_same k n d h =
    let w : 16 ^ suc k ≡ 16 * 16 ^ k = pow-suc 16 k ∙ omega arith in
    let q : (n * 16 + d) / 16 ≡ n = omega arith in
    ap (λ (x : ℕ). (n * 16 + d) / x) w ∙ sym (div-div-eq-div-mul (n * 16 + d) 16 (16 ^ k)) ∙ ap (λ (x : ℕ). x / 16 ^ k) q

-- one more digit at the end
more_digits : (k n d : ℕ) → d < 16 → id_text (suc k) (n * 16 + d) ≡ id_text k n ++ digit_glyph false d ∷ []
unfolding id_text
more_digits zero n d h = let e : (n * 16 + d) / 16 ^ 0 % 16 ≡ d = omega arith in ap (λ (x : ℕ). digit_glyph false x ∷ []) e
more_digits (suc k) n d h =
    ap (λ (x : ℕ). digit_glyph false (x % 16) ∷ id_text (suc k) (n * 16 + d)) (high_same k n d h)
    ∙ ap (λ (x : List ℕ). digit_glyph false (n / 16 ^ k % 16) ∷ x) (more_digits k n d h)

pub more_below : (k n d : ℕ) → n < 16 ^ k → d < 16 → n * 16 + d < 16 ^ suc k
more_below k n d a b = let w = pow-suc 16 k in omega arith

pub below_128 : (k n : ℕ) → k ≤ 32 → n < 16 ^ k → n < 2 ^ 128
below_128 k n a b = let p : 16 ^ k ≤ 16 ^ 32 = pow-le-pow_right (omega arith) a in omega arith

-- the number read from the first i bytes
pub record ReadUpTo (bytes : List ℕ) (i n : ℕ) : Type 0 where
  pub digits : take i bytes ≡ id_text i n
  pub small : n < 16 ^ i

pub read_none : (bytes : List ℕ) → ReadUpTo bytes 0 0
unfolding id_text
read_none bytes = record { digits = refl; small = omega arith }

pub read_more : (bytes : List ℕ) (i n d b : ℕ) → i < length bytes → b ≡ get_or bytes i 0 → IsDigitOf b (Some d) → ReadUpTo bytes i n → ReadUpTo bytes (i + 1) (n * 16 + d)
read_more bytes i n d b h is digit r =
    let e : i + 1 ≡ suc i = omega arith in
    record {
      digits = take_more bytes i 0 h ∙ ap (λ (x : List ℕ). x ++ get_or bytes i 0 ∷ []) r.digits ∙ ap (λ (x : ℕ). id_text i n ++ x ∷ []) (sym is ∙ digit.1)
          ∙ sym (more_digits i n d digit.0) ∙ ap (λ (x : ℕ). id_text x (n * 16 + d)) (sym e);
      small = subst (λ (x : ℕ). n * 16 + d < 16 ^ x) (sym e) (more_below i n d r.small digit.0);
    }

pub read_all : (bytes : List ℕ) (i n : ℕ) → length bytes ≤ i → i ≤ length bytes → ReadUpTo bytes i n → IsNumberOf (length bytes) bytes (Some n)
read_all bytes i n a b r =
    let e : i ≡ length bytes = omega arith in
    (sym (take_all i bytes a) ∙ r.digits ∙ ap (λ (x : ℕ). id_text x n) e, subst (λ (x : ℕ). n < 16 ^ x) e r.small)

pub not_read : (bytes : List ℕ) (i b : ℕ) → i < length bytes → b ≡ get_or bytes i 0 → is_digit b ≡ false → IsNumberOf (length bytes) bytes None
not_read bytes i b h is off = λ n e.
    both_ways (is_digit b) off
    (ap is_digit is ∙ AllPass-from_list_all is_digit bytes (ap (list_all is_digit) e ∙ all_shown (length bytes) n) i 0 h)
