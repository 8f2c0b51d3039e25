-- A number times a power of two, divided by another one.
use Rattle.std.proofs.Common.{◌≡◌, ℕ, ◌+◌, ◌-◌, ◌*◌, ◌/◌, ◌^◌, ◌<◌, ◌≤◌, sym, ap, ◌∙◌, arith}
use Rattle.std.proofs.Math.Nat.{mul-div_cancel, mul-div-mul_right, div-eq_of_lt, pow-le-pow_right, mul_assoc, lt_of_lt_of_le}
use Rattle.std.proofs.Math.Nat.{le_trans, le_of_eq, mul-lt-mul_of_pos_right}
use Rattle.std.proofs.lemmas.Nat.{pow-add, pow_pos}

pub scale_up : (m e n : ℕ) → n ≤ e → m * 2 ^ e / 2 ^ n ≡ m * 2 ^ (e - n)
scale_up m e n h =
    let k = e - n in
    let split : e ≡ k + n = omega arith in
    ap (λ (x : ℕ). m * 2 ^ x / 2 ^ n) split
    ∙ ap (λ (x : ℕ). m * x / 2 ^ n) (pow-add 2 k n)
    ∙ ap (λ (x : ℕ). x / 2 ^ n) (sym (mul_assoc m (2 ^ k) (2 ^ n)))
    ∙ mul-div_cancel (m * 2 ^ k) (pow_pos n)

pub scale_down : (m e n : ℕ) → e ≤ n → m * 2 ^ e / 2 ^ n ≡ m / 2 ^ (n - e)
scale_down m e n h =
    let k = n - e in
    let split : n ≡ k + e = omega arith in
    ap (λ (x : ℕ). m * 2 ^ e / 2 ^ x) split
    ∙ ap (λ (x : ℕ). m * 2 ^ e / x) (pow-add 2 k e)
    ∙ mul-div-mul_right m (2 ^ k) (pow_pos e)

pub scale_away : (m e n d : ℕ) → m < 2 ^ d → e + d ≤ n → m * 2 ^ e / 2 ^ n ≡ 0
scale_away m e n d small h =
    let below : e ≤ n = omega arith in
    let room : d ≤ n - e = omega arith in
    scale_down m e n below
    ∙ div-eq_of_lt (lt_of_lt_of_le small (pow-le-pow_right (pow_pos 1) room))

-- a number below 2 ^ d, shifted so that it stays below 2 ^ n
pub scale_below : (m k d n : ℕ) → m < 2 ^ d → k + d ≤ n → m * 2 ^ k < 2 ^ n
scale_below m k d n small h =
    lt_of_lt_of_le (mul-lt-mul_of_pos_right small (pow_pos k))
    (le_trans (le_of_eq (sym (pow-add 2 d k)))
    (pow-le-pow_right (pow_pos 1) (omega arith)))
