-- The numbers of lost items, by cause.
use Rattle.std.specs.Prelude.{◌≡◌, ℕ, ◌+◌, ◌^◌, ◌-◌, min, refl}
use Rattle.otel_sdk_base.specs.declared.losses.Losses.{Losses}

-- the number, or the maximum `u64`
abbrev pub within_u64 : ℕ → ℕ
within_u64 count = min count (2 ^ 64 - 1)

-- nothing is lost
abbrev pub none : Losses
none = record { rejected = 0; given_up = 0; dropped = 0; held = 0 }

-- the sum for each cause
abbrev pub saturating_add : Losses → Losses → Losses
saturating_add first second = record {
  rejected = within_u64 (first.rejected + second.rejected);
  given_up = within_u64 (first.given_up + second.given_up);
  dropped = within_u64 (first.dropped + second.dropped);
  held = within_u64 (first.held + second.held);
}

-- the sum of all causes
abbrev pub total : Losses → ℕ
total losses = within_u64 (losses.rejected + losses.given_up + losses.dropped + losses.held)

-- ---- worked rows
total_example : total (record { rejected = 2; given_up = 0; dropped = 1; held = 5 }) ≡ 8
total_example = refl
