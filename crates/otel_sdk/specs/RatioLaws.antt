-- Laws of ratios.
use Rattle.std.specs.Prelude.{◌≡◌, ℕ, ◌≤◌, true}
use Rattle.otel_sdk.specs.Ratio.{half, bound, samples, infinity}

-- Whether a trace is sampled depends only on the ratio and on the low half of its id without the
-- last bit.
abbrev pub OnlyHalfCounts : Type 0
OnlyHalfCounts = (bits a b : ℕ) → half a ≡ half b → samples bits a ≡ samples bits b

-- For nonnegative doubles up to infinity, a greater double has greater bits, and greater bits have
-- no smaller bound.
abbrev pub BoundRises : Type 0
BoundRises = (a b : ℕ) → a ≤ b → b ≤ infinity → bound a ≤ bound b

-- A trace that is sampled at one ratio is sampled at every greater ratio.
abbrev pub SampledAtGreater : Type 0
SampledAtGreater = (a b trace_id : ℕ) → a ≤ b → b ≤ infinity
    → samples a trace_id ≡ true → samples b trace_id ≡ true
