use Rattle.std.proofs.Common.{◌≡◌, map, take}
use Rattle.otel_base.specs.View.{attribute_of}
use Rattle.otel_proto_batches.proofs.groups.unique.Given as goal

abbrev pub invariant-loop-attribute : goal.invariant-loop-attribute
invariant-loop-attribute l =
    map attribute_of l.given.items ≡ map attribute_of (take l.attribute-index l.attribute-items)
