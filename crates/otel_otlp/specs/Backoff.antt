-- The waits before a refused request is sent again, in milliseconds.
use Rattle.std.specs.Prelude.{◌≡◌, ℕ, ◌-◌, ◌*◌, ◌/◌, ◌^◌, min, max, Option, Some, None, refl}

-- the wait after the first refusal in a row, before the factor
abbrev pub first : ℕ
first = 1000

-- the wait after one more refusal
abbrev pub next : ℕ → ℕ
next delay = min (delay * 2) 30000

-- a factor in thousandths, of which those above 2 count as 2
abbrev pub scaled : ℕ → ℕ → ℕ
scaled delay factor = delay * min factor 2000 / 1000

-- the wait: this delay times the factor, or the seconds that the collector asked for, if longer
abbrev pub wait : ℕ → ℕ → Option ℕ → ℕ
wait delay factor None = scaled delay factor
wait delay factor (Some seconds) = max (scaled delay factor) (min (seconds * 1000) (2 ^ 64 - 1))

-- ---- worked rows
in_a_row : next (next (next (next (next first)))) ≡ 30000
in_a_row = refl

asked_for_longer : wait first 800 (Some 7) ≡ 7000
asked_for_longer = refl
