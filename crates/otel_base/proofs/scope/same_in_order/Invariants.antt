use Rattle.std.proofs.Common.{◌≡◌, map, drop}
use Rattle.std.specs.List.{slice_get}
use Rattle.std.specs.Option.{option_eq}
use Rattle.std.specs.Cmp.Lexicographic.{pointwise}
use Rattle.otel_base.specs.KeyValue as attribute
use Rattle.otel_base.specs.View.{attribute_of}
use Rattle.otel_base.proofs.scope.same_in_order.Given as goal

-- the elements left to compare decide
abbrev pub invariant-loop-place : goal.invariant-loop-place
invariant-loop-place l =
    pointwise (option_eq attribute.eq) (map (slice_get (map attribute_of l.left)) l.left_positions)
    (map (slice_get (map attribute_of l.right)) l.right_positions)
    ≡ pointwise (option_eq attribute.eq)
    (map (slice_get (map attribute_of l.left)) (drop l.place l.left_positions))
    (map (slice_get (map attribute_of l.right)) (drop l.place l.right_positions))
