-- The members that the header of a baggage determines.
use Rattle.std.specs.Prelude.{◌≡◌, ◌≤◌, true, not, ◌==◌, List, length, All}
use Rattle.std.specs.List.{list_all}
use Rattle.otel_context.specs.BaggageMember.{Member}
use Rattle.otel_context.specs.Baggage.{IsBaggage}
use Rattle.otel_context.specs.BaggageHeader.{header, max_len_of_header}

-- The metadata contains no `,` (44).
abbrev pub HasNoComma : Member → Type 0
HasNoComma m = list_all (λ b. not (b == 44)) m.metadata ≡ true

-- Baggages with equal headers have equal members, if no metadata contains a comma. Not in the Rust
-- crate.
--
-- The condition is needed: `a` with the value `1` and the metadata `x,b=2` has the header
-- `a=1;x,b=2`, and so has `a` with `1` and `x`, followed by `b` with `2`.
abbrev pub HeaderDetermines : Type 0
HeaderDetermines = (xs ys : List Member) → IsBaggage xs → IsBaggage ys
    → All HasNoComma xs → All HasNoComma ys → header xs ≡ header ys → xs ≡ ys

-- No header is longer: `k` with a value of 8191 spaces has as many bytes. Not in the Rust crate.
abbrev pub HeaderIsShort : Type 0
HeaderIsShort = (ms : List Member) → IsBaggage ms → length (header ms) ≤ max_len_of_header
