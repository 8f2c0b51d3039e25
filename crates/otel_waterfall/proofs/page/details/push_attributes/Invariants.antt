-- The attributes so far are appended.
use Rattle.std.proofs.Common.{◌≡◌, ◌++◌, map, take}
use Rattle.std.specs.String.{string_bytes}
use Rattle.otel_base.specs.View.{attribute_of}
use Rattle.otel_waterfall.specs.Details as spec
use Rattle.otel_waterfall.proofs.page.details.push_attributes.Given as goal

abbrev pub invariant-loop-attribute : goal.invariant-loop-attribute
invariant-loop-attribute l =
    string_bytes l.text
    ≡ string_bytes l.initial.text ++ spec.attributes (map attribute_of (take l.attribute-index l.attributes))
