use Rattle.std.proofs.Common.{arith}
use Rattle.otel_base.specs.View.{attribute_of}
use Rattle.otel_otlp.specs.Common.{key_value}
use Rattle.otel_otlp.proofs.Tokens.{next_mapped}
use Rattle.otel_otlp.proofs.common.key_values.Goals as goal

pub loop-attribute-preserved : goal.loop-attribute-preserved
loop-attribute-preserved c =
    next_mapped key_value attribute_of c.args.attributes.now c.loop-attribute.attribute-index c.attribute-item.result (omega (arith, c.loop-attribute-test.true)) c.attribute-item.is
    c.loop-attribute.invariant c.in_ok-key_value.ensures
