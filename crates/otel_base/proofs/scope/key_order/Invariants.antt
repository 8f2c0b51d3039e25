use Rattle.std.proofs.Common.{◌≡◌, map, take, Some, vec_len}
use Rattle.std.specs.List.{slice_get}
use Rattle.otel_base.specs.View.{attribute_of}
use Rattle.otel_base.proofs.scope.key_order.Given as goal

-- each position so far gives its attribute
abbrev pub invariant-loop-position : goal.invariant-loop-position
invariant-loop-position l =
    (map (slice_get (map attribute_of l.attributes)) l.positions.items
    ≡ map (λ p. Some p) (take l.position (map attribute_of l.attributes)))
    × (vec_len l.positions ≡ l.position)
