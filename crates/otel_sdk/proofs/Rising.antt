-- The bound doesn't decrease as the ratio increases.
use Rattle.std.proofs.Common.{◌≡◌, ℕ, ◌+◌, ◌*◌, ◌/◌, ◌%◌, ◌^◌, ◌<◌, ◌≤◌, sym, ap, ◌∙◌, arith, inl, inr, nat_lt, true, refl}
use Rattle.std.proofs.Math.Nat.{le_trans, le_of_eq, le_of_lt, lt_of_lt_of_le, lt_of_le_of_lt, mul-le-mul, pow-le-pow_right, div-le_of_le-mul, eq-zero-or-pos, eq-or-lt_of_le, mul_assoc, mul_comm, div-mul-le_self}
use Rattle.std.proofs.lemmas.Nat.{pow-add, pow_pos, le-div}
use Rattle.std.proofs.lemmas.Bool.{lt-ltb, ltb-true, cases_lt}
use Rattle.otel_sdk.proofs.Scaling.{scale_below}
use Rattle.otel_sdk.specs.Ratio.{bound, one, infinity, exponent, significand}

floors_rise : (x y k : ℕ) → 0 < k → x ≤ y → x / k ≤ y / k
floors_rise x y k p h = le-div (x / k) y k p (le_trans (div-mul-le_self x k) h)

double : (k : ℕ) → 2 ^ (1 + k) ≡ 2 * 2 ^ k
double k = pow-add 2 1 k

-- m * 2 ^ e, with m from d up to 2 * d, increases with e
steps : (m n d e f : ℕ) → m ≤ 2 * d → d ≤ n → e < f → m * 2 ^ e ≤ n * 2 ^ f
steps m n d e f h k l =
    let more : 1 + e ≤ f = omega arith in
    let first : m * 2 ^ e ≤ (2 * d) * 2 ^ e = mul-le-mul h (le_of_eq refl) in
    let second : (2 * d) * 2 ^ e ≡ d * 2 ^ (1 + e) =
    ap (λ (x : ℕ). x * 2 ^ e) (mul_comm 2 d) ∙ mul_assoc d 2 (2 ^ e)
    ∙ ap (λ (x : ℕ). d * x) (sym (double e)) in
    le_trans first (le_trans (le_of_eq second) (mul-le-mul k (pow-le-pow_right (pow_pos 1) more)))

parts_rise : (s t e f : ℕ) → s ≤ 2 ^ 53 → 2 ^ 52 ≤ t → e ≤ f → (e ≡ f → s ≤ t) → s * 2 ^ e ≤ t * 2 ^ f
parts_rise s t e f h k l same = elim (eq-or-lt_of_le l) [
  | inl e≡f ↦ mul-le-mul (same e≡f) (le_of_eq (ap (λ (x : ℕ). 2 ^ x) e≡f))
  | inr less ↦ steps s t (2 ^ 52) e f h k less
]

pub values_rise : (a b : ℕ) → a ≤ b → b < 2 ^ 63 → significand a * 2 ^ exponent a ≤ significand b * 2 ^ exponent b
values_rise a b h k =
    let ea : a / 2 ^ 52 % 2 ^ 11 ≡ a / 2 ^ 52 = omega arith in
    let eb : b / 2 ^ 52 % 2 ^ 11 ≡ b / 2 ^ 52 = omega arith in
    parts_rise (significand a) (significand b) (exponent a) (exponent b)
    (omega arith) (omega arith) (omega arith) (λ e. omega arith)

pub bound_high : (b : ℕ) → one ≤ b → b ≤ infinity → bound b ≡ 2 ^ 63
bound_high b h k = grind arith

pub bound_zero : (b : ℕ) → b < one → exponent b ≡ 0 → bound b ≡ 0
bound_zero b h k = grind arith

pub bound_mid : (b : ℕ) → b < one → 0 < exponent b → bound b ≡ significand b * 2 ^ exponent b / 2 ^ 1012
bound_mid b h k = grind arith

below_one : (b : ℕ) → b < one → significand b * 2 ^ exponent b / 2 ^ 1012 ≤ 2 ^ 63
below_one b h =
    let small : significand b * 2 ^ exponent b < 2 ^ 1075 =
    scale_below (significand b) (exponent b) 53 1075 (omega arith) (omega arith) in
    div-le_of_le-mul (2 ^ 1012) (le_of_lt small)

least : (a n : ℕ) → bound a ≡ 0 → bound a ≤ n
least a n e = omega arith

at_most : (a : ℕ) → a ≤ infinity → bound a ≤ 2 ^ 63
at_most a h = elim (cases_lt a one) [
  | inr high ↦ le_of_eq (bound_high a high h)
  | inl low ↦ elim (eq-zero-or-pos (exponent a)) [
    | inl none ↦ least a (2 ^ 63) (bound_zero a low none)
    | inr some ↦ le_trans (le_of_eq (bound_mid a low some)) (below_one a low)
  ]
]

pub bound_rises : (a b : ℕ) → a ≤ b → b ≤ infinity → bound a ≤ bound b
bound_rises a b h k = elim (cases_lt b one) [
  | inr high ↦ le_trans (at_most a (le_trans h k)) (le_of_eq (sym (bound_high b high k)))
  | inl low ↦ elim (eq-zero-or-pos (exponent a)) [
    | inl none ↦ least a (bound b) (bound_zero a (lt_of_le_of_lt h low) none)
    | inr some ↦ le_trans (le_of_eq (bound_mid a (lt_of_le_of_lt h low) some))
        (le_trans (floors_rise (significand a * 2 ^ exponent a) (significand b * 2 ^ exponent b) (2 ^ 1012) (pow_pos 1012)
        (values_rise a b h (omega arith)))
        (le_of_eq (sym (bound_mid b low (omega arith)))))
  ]
]

pub sampled_at_greater : (a b x : ℕ) → a ≤ b → b ≤ infinity → nat_lt x (bound a) ≡ true → nat_lt x (bound b) ≡ true
sampled_at_greater a b x h k s =
    lt-ltb x (bound b) (lt_of_lt_of_le (ltb-true x (bound a) s) (bound_rises a b h k))
