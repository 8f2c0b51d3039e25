-- The numbers that the code computes from the sum that it stores. No public contract cites this
-- file.
use Rattle.std.specs.Prelude.{ℕ, ◌-◌, List, length, ◌&&◌, nat_lt, Option, Some, None, if◌then◌else◌}
use Rattle.std.specs.Option.{option_map_or}
use Rattle.otel_context.specs.BaggageText.{is_key}
use Rattle.otel_context.specs.BaggageMember.{Member, weight_of}
use Rattle.otel_context.specs.Baggage.{max_key_value_pairs, weight, put, accepts, member_at}

-- The number of bytes of the members with other keys, if this key is accepted.
abbrev pub weight_of_others : List Member → List ℕ → Option ℕ
weight_of_others ms key =
    option_map_or (λ old. Some (weight ms - weight_of old)) (member_at ms key)
    (if is_key key && nat_lt (length ms) max_key_value_pairs then Some (weight ms) else None)

-- The number of bytes of all members after m is put, if it is accepted.
abbrev pub weight_after : List Member → Member → Option ℕ
weight_after ms m = if accepts ms m then Some (weight (put ms m)) else None
