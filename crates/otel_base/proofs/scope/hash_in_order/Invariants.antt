use Rattle.std.proofs.Common.{◌≡◌, map, fold, take}
use Rattle.std.specs.List.{flat_map}
use Rattle.otel_base.specs.KeyValue as attribute
use Rattle.otel_base.specs.View.{attribute_of}
use Rattle.otel_base.specs.KeyOrder.{in_key_order}
use Rattle.otel_base.proofs.scope.hash_in_order.Given as goal

abbrev pub invariant-loop-position : goal.invariant-loop-position
invariant-loop-position g l =
    l.state ≡ fold g.H.Hasher.write l.initial.state
    (flat_map attribute.hash
    (take l.position-index (in_key_order (map attribute_of l.attributes))))
