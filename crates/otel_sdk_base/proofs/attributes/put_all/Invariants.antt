use Rattle.std.proofs.Common.{◌≡◌, map}
use Rattle.otel_base.specs.View.{attribute_of}
use Rattle.otel_sdk_base.specs.Attributes as spec
use Rattle.otel_sdk_base.proofs.attributes.put_all.Given as goal

abbrev pub invariant-loop-attribute : goal.invariant-loop-attribute
invariant-loop-attribute l = map attribute_of l.attributes.items
    ≡ spec.put_all (map attribute_of l.initial.attributes.items) (map attribute_of l.yielded)
