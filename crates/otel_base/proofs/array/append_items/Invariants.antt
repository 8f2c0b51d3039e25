use Rattle.std.proofs.Common.{◌≡◌, ◌≤◌, ◌∷◌, ◌++◌, map, take, string_bytes, string_capacity}
use Rattle.std.specs.List.{join_with_byte}
use Rattle.otel_base.proofs.array.append_items.Given as goal

abbrev pub invariant-loop-i : goal.invariant-loop-i
invariant-loop-i g l =
    (string_bytes l.out
    ≡ string_bytes l.fn.out ++ 91 ∷ join_with_byte 44 (map g.I.Item.text (take l.i l.items)))
    × (string_capacity l.fn.out ≤ string_capacity l.out)
