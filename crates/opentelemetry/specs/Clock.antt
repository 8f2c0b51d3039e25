-- The time that a clock reads.
use Rattle.std.specs.Prelude.{◌≡◌, ℕ, min, Option, Some, None, refl}
use Rattle.std.specs.Time.{system_time_nanos}
use Rattle.std.specs.declared.time.SystemTime.{SystemTime}

-- a time in 64 bits: the nanoseconds since 1970, at most 2 ^ 64 - 1, which is in the year 2554
abbrev pub within_u64 : ℕ → ℕ
within_u64 nanos = min nanos 18446744073709551615

-- the time that a clock shows if its source answers this, which is `None` if it can't be read
abbrev pub shown : Option SystemTime → ℕ
shown (Some time) = within_u64 (system_time_nanos time)
shown None = 0

-- the time of an answer of the source, of which only a reading shows `may_answer`
abbrev pub IsShown : (Option SystemTime → Type 0) → ℕ → Type 0
IsShown may_answer now =
    (answer : Option SystemTime) × may_answer answer × (now ≡ shown answer)

-- ---- worked rows
kept_example : within_u64 1760000000000000000 ≡ 1760000000000000000
kept_example = refl

greatest_example : within_u64 18446744073709551616 ≡ 18446744073709551615
greatest_example = refl
