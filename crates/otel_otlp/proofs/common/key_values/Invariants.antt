use Rattle.std.proofs.Common.{map, take}
use Rattle.otel_base.specs.View.{attribute_of}
use Rattle.otel_otlp.specs.Common.{key_value}
use Rattle.otel_otlp.specs.Tokens.{HasItems}
use Rattle.otel_otlp.proofs.common.key_values.Given as goal

abbrev pub invariant-loop-attribute : goal.invariant-loop-attribute
invariant-loop-attribute l =
    HasItems l.initial.out l.out (map key_value (map attribute_of (take l.attribute-index l.attributes)))
