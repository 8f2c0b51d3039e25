use Rattle.std.proofs.Common.{◌≡◌, [], map}
use Rattle.otel_base.specs.View.{attribute_of}
use Rattle.otel_sdk_base.specs.Attributes as spec
use Rattle.otel_sdk_base.specs.Attributes.{up_by}
use Rattle.otel_sdk_base.proofs.attributes.limited.Given as goal

abbrev pub invariant-loop-attribute : goal.invariant-loop-attribute
invariant-loop-attribute l =
    (map attribute_of l.kept.items
    ≡ spec.set_all l.limit [] (map (spec.cut l.length) (map attribute_of l.yielded)))
    × (l.count ≡ up_by l.initial.count
    (spec.dropped l.limit [] (map (spec.cut l.length) (map attribute_of l.yielded))))
