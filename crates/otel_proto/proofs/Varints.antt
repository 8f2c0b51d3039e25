-- The bytes of a varint, byte by byte.
use Rattle.std.proofs.Common.{◌≡◌, ℕ, zero, suc, ◌+◌, ◌*◌, ◌/◌, ◌%◌, ◌^◌, ◌<◌, ◌≤◌, List, [], ◌∷◌, true, false, Bool, if◌then◌else◌, sym, ap, ◌∙◌, arith}
use Rattle.std.specs.Prelude.{nat_lt}
use Rattle.std.proofs.lemmas.Bool.Decides.{nat_tests}
use Rattle.std.proofs.Math.Nat.{pow-suc}
use Rattle.otel_proto.specs.Written.{varint_bytes, varint_bytes_within}

below : (a b : ℕ) → a < b → nat_lt a b ≡ true
below a b h = grind (arith, nat_tests)

not_below : (a b : ℕ) → b ≤ a → nat_lt a b ≡ false
not_below a b h = grind (arith, nat_tests)

-- one more byte at most changes nothing, if the number has no more
within_more : (n v : ℕ) → v < 128 ^ suc n → varint_bytes_within n v ≡ varint_bytes_within (suc n) v
within_more zero v h = let small : v < 128 = grind arith in ap (λ (b : Bool). if b then v ∷ [] else (v % 128 + 128) ∷ varint_bytes_within zero (v / 128)) (sym (below v 128 small))
within_more (suc n) v h =
    let step : 128 ^ suc (suc n) ≡ 128 ^ suc n * 128 = pow-suc 128 (suc n) in
    let less : v / 128 < 128 ^ suc n = omega arith in
    ap (λ (more : List ℕ). if nat_lt v 128 then v ∷ [] else (v % 128 + 128) ∷ more) (within_more n (v / 128) less)

-- a number below 128 is one byte
pub varint_small : (v : ℕ) → v < 128 → varint_bytes v ≡ v ∷ []
unfolding varint_bytes
varint_small v h = ap (λ (b : Bool). if b then v ∷ [] else (v % 128 + 128) ∷ varint_bytes_within 8 (v / 128)) (below v 128 h)

-- any other has its low 7 bits first
pub varint_large : (v : ℕ) → 128 ≤ v → v < 2 ^ 64 → varint_bytes v ≡ (v % 128 + 128) ∷ varint_bytes (v / 128)
unfolding varint_bytes
varint_large v h fits =
    let fewer : v / 128 < 2 ^ 57 = omega arith in
    let less : v / 128 < 128 ^ 9 = omega arith in
    ap (λ (b : Bool). if b then v ∷ [] else (v % 128 + 128) ∷ varint_bytes_within 8 (v / 128)) (not_below v 128 h)
    ∙ ap (λ (more : List ℕ). (v % 128 + 128) ∷ more) (within_more 8 (v / 128) less)
