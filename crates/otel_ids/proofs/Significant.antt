-- The digits of a number without leading zeros.
use Rattle.std.proofs.Common.{◌≡◌, ℕ, zero, suc, ◌-◌, ◌*◌, ◌/◌, ◌%◌, ◌^◌, ◌<◌, ◌≤◌, ◌==◌, Bool, true, false, cond, List, [], ◌∷◌, ◌++◌, length, refl, sym, ap, ◌∙◌, inl, inr, arith, append-nil, append_assoc, eqb-true}
use Rattle.std.specs.Prelude.{◌≢◌}
use Rattle.std.specs.Fmt.{IsDefaultSpec, padded_integral, padding_before, char_count, digit_glyph, digits, digits_onto}
use Rattle.std.specs.Int.{bytes_high_first}
use Rattle.std.proofs.Math.Nat.{div-div-eq-div-mul, pow-succ', zero-div}
use Rattle.std.proofs.lemmas.Bool.{cases_Bool}
use Rattle.otel_ids.specs.Ids.{some_digit, without_zeros, id_text, two_digits, bytes_digits, number_of}
use Rattle.otel_ids.proofs.shared.Numerals.{bytes_text, number_below}

pub zero_alone : (r zs : List ℕ) → r ≡ zs → (length r == 0) ≡ true → 48 ∷ [] ≡ some_digit zs
zero_alone [] zs e t = rw (← e) refl
zero_alone (b ∷ bs) zs e t = let none = eqb-true (length (b ∷ bs)) 0 t in absurd (omega (arith, none))

pub digits_kept : (r zs : List ℕ) → r ≡ zs → (length r == 0) ≡ false → r ≡ some_digit zs
digits_kept [] zs e f = cc f
digits_kept (b ∷ bs) zs e f = rw (← e) refl

same_both : {A : Type 0} (t : Bool) (x : A) → cond t x x ≡ x
same_both true x = refl
same_both false x = refl

nothing_before : (s : _) (side : ℕ) → padding_before s 0 side ≡ 0
nothing_before s side = simp same_both

-- without options a number is padded with nothing
pub plain_number : (s : _) (prefix numeral : List ℕ) → IsDefaultSpec s → padded_integral s false prefix numeral ≡ numeral
unfolding padded_integral
plain_number s prefix numeral h =
    let none : s.width - length numeral - 0 - char_count [] ≡ 0 = omega (arith, h.width) in
    rw (h.plus, h.alternate, none, nothing_before s 3) (simp (same_both, append-nil))

-- ---- the digits that std writes

glyph_zero : (x : ℕ) → digit_glyph false (0 / x % 16) ≡ 48
glyph_zero x = let z : 0 / x ≡ 0 = zero-div x in rw z refl

-- leading zeros are skipped
past_zeros : (k : ℕ) (ys : List ℕ) → without_zeros (id_text k 0 ++ ys) ≡ without_zeros ys
unfolding id_text
past_zeros zero ys = refl
past_zeros (suc k) ys = rw (glyph_zero (16 ^ k)) (past_zeros k ys)

-- the digits are the digits of a sixteenth of the number, followed by the last digit
last_digit : (k n : ℕ) → id_text (suc k) n ≡ id_text k (n / 16) ++ digit_glyph false (n % 16) ∷ []
unfolding id_text
last_digit zero n = let one : n / 16 ^ 0 ≡ n = omega arith in rw one refl
last_digit (suc k) n =
    let up : n / 16 ^ suc k ≡ n / 16 / 16 ^ k = ap (λ (x : ℕ). n / x) (pow-succ' 16 k) ∙ sym (div-div-eq-div-mul n 16 (16 ^ k)) in
    rw (last_digit k n, up) refl

none_of_zeros : (xs : List ℕ) → without_zeros xs ≡ [] → number_of xs ≡ 0
none_of_zeros [] e = refl
none_of_zeros (x ∷ xs) e =
    elim (cases_Bool (x == 48)) [
      | inl t ↦ let rest : without_zeros xs ≡ [] = rw t at e in let z = none_of_zeros xs rest in rw (eqb-true x 48 t, z) (omega arith)
      | inr f ↦ let some : x ∷ xs ≡ [] = rw f at e in cc some
    ]

some_left : (k n : ℕ) → n < 16 ^ k → 0 < n → without_zeros (id_text k n) ≢ []
some_left k n below some e = let h = number_below k n below in let z = none_of_zeros (id_text k n) e in omega (arith, h, z)

appended : (xs ys : List ℕ) → without_zeros xs ≢ [] → without_zeros (xs ++ ys) ≡ without_zeros xs ++ ys
appended [] ys some = absurd (some refl)
appended (x ∷ xs) ys some =
    elim (cases_Bool (x == 48)) [
      | inl t ↦ rw t (appended xs ys (λ e. some (rw t e)))
      | inr f ↦ rw f refl
    ]

some_is : (xs ys zs : List ℕ) → xs ≢ [] → some_digit (xs ++ ys) ++ zs ≡ some_digit xs ++ (ys ++ zs)
some_is [] ys zs some = absurd (some refl)
some_is (x ∷ xs) ys zs some = ap (λ (l : List ℕ). x ∷ l) (append_assoc xs ys zs)

one_digit : (g : ℕ) → some_digit (without_zeros (g ∷ [])) ≡ g ∷ []
one_digit g =
    elim (cases_Bool (g == 48)) [
      | inl t ↦ rw (t, eqb-true g 48 t) refl
      | inr f ↦ rw f refl
    ]

not_zero : (n : ℕ) → (n == 0) ≡ false → 0 < n
not_zero zero e = cc e
not_zero (suc n) e = omega arith

-- the number is one digit
one_onto : (k f n : ℕ) (acc : List ℕ) → n / 16 ≡ 0 → digits_onto (suc f) 16 false n acc ≡ some_digit (without_zeros (id_text (suc k) n)) ++ acc
one_onto k f n acc z =
    rw (last_digit k n, z, past_zeros k (digit_glyph false (n % 16) ∷ [])) (ap (λ (l : List ℕ). l ++ acc) (sym (one_digit (digit_glyph false (n % 16)))))

-- the digits of n are its text of any length into which it fits, without leading zeros
onto : (k f n : ℕ) (acc : List ℕ) → k ≤ f → n < 16 ^ suc k → digits_onto (suc f) 16 false n acc ≡ some_digit (without_zeros (id_text (suc k) n)) ++ acc
onto zero f n acc room below = one_onto 0 f n acc (omega arith)
onto (suc k) zero n acc room below = absurd (omega arith)
onto (suc k) (suc f) n acc room below =
    elim (cases_Bool (n / 16 == 0)) [
      | inl t ↦ one_onto (suc k) (suc f) n acc (eqb-true (n / 16) 0 t)
      | inr e ↦
          let g = digit_glyph false (n % 16) ∷ [] in
          let w : 16 ^ suc (suc k) ≡ 16 * 16 ^ suc k = pow-succ' 16 (suc k) in
          let small : n / 16 < 16 ^ suc k = omega (arith, w) in
          let some : 0 < n / 16 = not_zero (n / 16) e in
          let kept = some_left (suc k) (n / 16) small some in
          rw (last_digit (suc k) n, e) (onto k f (n / 16) (g ++ acc) (omega arith) small
          ∙ sym (some_is (without_zeros (id_text (suc k) (n / 16))) g acc kept)
          ∙ ap (λ (l : List ℕ). some_digit l ++ acc) (sym (appended (id_text (suc k) (n / 16)) g kept)))
    ]

digits_of_text : (k n : ℕ) → k ≤ 63 → n < 16 ^ suc k → some_digit (without_zeros (id_text (suc k) n)) ≡ digits 16 false n
unfolding digits
digits_of_text k n room below = sym (append-nil _) ∙ sym (onto k 63 n [] room below)

pub digits_of_id : (n : ℕ) → n < 2 ^ 64 → bytes_digits (bytes_high_first 8 n) ≡ digits 16 false n
digits_of_id n below = ap (λ (l : List ℕ). some_digit (without_zeros l)) (bytes_text 8 16 n refl) ∙ digits_of_text 15 n (omega arith) below

byte_text : (n : ℕ) → n < 256 → two_digits n ≡ id_text 2 n
unfolding id_text
byte_text n below =
    let high : n / 16 ≡ n / 16 ^ 1 % 16 = omega arith in
    let low : n % 16 ≡ n / 16 ^ 0 % 16 = omega arith in
    ap (λ (d : ℕ). digit_glyph false d ∷ digit_glyph false (n % 16) ∷ []) high
    ∙ ap (λ (d : ℕ). digit_glyph false (n / 16 ^ 1 % 16) ∷ digit_glyph false d ∷ []) low

pub digits_of_byte : (n b : ℕ) → b ≡ n → n < 256 → bytes_digits (b ∷ []) ≡ digits 16 false n
digits_of_byte n b e below =
    let is : two_digits n ≡ id_text 2 n = byte_text n below in
    ap (λ (x : ℕ). bytes_digits (x ∷ [])) e ∙ ap (λ (l : List ℕ). some_digit (without_zeros l)) is ∙ digits_of_text 1 n (omega arith) below
