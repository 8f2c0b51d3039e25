-- The traces that a ratio samples: the bound of a ratio, which is a double given by its 64 bits,
-- and the number of a trace id that is compared with that bound.
use Rattle.std.specs.Prelude.{◌≡◌, refl, ℕ, ◌+◌, ◌*◌, ◌/◌, ◌%◌, ◌^◌, ◌==◌, ◌<◌, ◌≤◌, nat_lt, nat_le}
use Rattle.std.specs.Prelude.{Bool}
use Rattle.std.specs.Prelude.{List, Option, Some, codes, option_map, to_bits, if◌then◌else◌}
use Rattle.std.specs.Float.{binary64}
use Rattle.std.specs.Float.Parse.{parse_float}

-- ---- doubles [IEEE 754, "binary64"]

-- the bits of 1.0, and of infinity; greater bits are NaN or have the sign set
abbrev pub one : ℕ
one = 1023 * 2 ^ 52

abbrev pub infinity : ℕ
infinity = 2047 * 2 ^ 52

-- bits 52 to 62
abbrev pub exponent : ℕ → ℕ
exponent bits = bits / 2 ^ 52 % 2 ^ 11

-- bits 0 to 51 after a leading 1; a double from 2 ^ -1022 up to infinity is
-- significand * 2 ^ (exponent - 1075)
abbrev pub significand : ℕ → ℕ
significand bits = 2 ^ 52 + bits % 2 ^ 52

-- ---- the traces that a ratio samples

-- The ratio times 2 ^ 63 without its fraction: 2 ^ 62 for 0.5. A ratio below 0 and NaN count as 0,
-- a ratio above 1 as 1 [not specified; the Rust crate's `TraceIdRatioBased`].
abbrev pub bound : ℕ → ℕ
bound bits =
    if nat_lt infinity bits then 0
    else (if nat_le one bits then 2 ^ 63
    else (if exponent bits == 0 then 0
    else significand bits * 2 ^ exponent bits / 2 ^ 1012))

-- the low half of a trace id without its last bit: below 2 ^ 63
-- [own; the Rust crate's `TraceIdRatioBased`]
abbrev pub half : ℕ → ℕ
half trace_id = trace_id % 2 ^ 64 / 2

-- whether the ratio samples the trace
abbrev pub samples : ℕ → ℕ → Bool
samples bits trace_id = nat_lt (half trace_id) (bound bits)

-- the bits of the double that the text denotes, if it denotes one
abbrev pub denoted : List ℕ → Option ℕ
denoted text = option_map (λ x. to_bits binary64 x) (parse_float binary64 text)

-- the text of the effective ratio: 0 if it isn't above 0, 1 from 1 on, otherwise a decimal that
-- reads as the ratio
pub record IsNumberText (bits : ℕ) (text : List ℕ) : Type 0 where
  pub zero : bits ≡ 0 → text ≡ codes "0"
  pub below_zero : infinity < bits → text ≡ codes "0"
  pub from_one : one ≤ bits → bits ≤ infinity → text ≡ codes "1"
  pub between : 0 < bits → bits < one → denoted text ≡ Some bits

-- ---- worked rows
-- 0.5, 0.1, 0.25
half_bound : bound 0x3fe0_0000_0000_0000 ≡ 4611686018427387904
half_bound = refl

tenth_bound : bound 0x3fb9_9999_9999_999a ≡ 922337203685477632
tenth_bound = refl

quarter_bound : bound 0x3fd0_0000_0000_0000 ≡ 2305843009213693952
quarter_bound = refl

-- 0.001
thousandth_bound : bound 0x3f50_624d_d2f1_a9fc ≡ 9223372036854776
thousandth_bound = refl

-- 2 ^ -63, 2 ^ -64 and the smallest double above 0
least_bound : bound 0x3c00_0000_0000_0000 ≡ 1
least_bound = refl

too_small_bound : bound 0x3bf0_0000_0000_0000 ≡ 0
too_small_bound = refl

subnormal_bound : bound 1 ≡ 0
subnormal_bound = refl

-- 0, -0, -1 and NaN
zero_bound : bound 0 ≡ 0
zero_bound = refl

minus_zero_bound : bound 0x8000_0000_0000_0000 ≡ 0
minus_zero_bound = refl

minus_one_bound : bound 0xbff0_0000_0000_0000 ≡ 0
minus_one_bound = refl

nan_bound : bound 0x7ff8_0000_0000_0000 ≡ 0
nan_bound = refl

-- 1, 2 and infinity
one_bound : bound 0x3ff0_0000_0000_0000 ≡ 2 ^ 63
one_bound = refl

two_bound : bound 0x4000_0000_0000_0000 ≡ 2 ^ 63
two_bound = refl

infinity_bound : bound 0x7ff0_0000_0000_0000 ≡ 2 ^ 63
infinity_bound = refl

-- the high half of a trace id and its last bit don't count
high_half : half 0xffff_ffff_ffff_ffff_0000_0000_0000_0003 ≡ 1
high_half = refl
