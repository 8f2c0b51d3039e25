use Rattle.std.proofs.Common.{arith, false}
use Rattle.otel_otlp.specs.Common.{boolean_value}
use Rattle.otel_otlp.proofs.Tokens.{next_at}
use Rattle.otel_otlp.proofs.common.boolean_values.Goals as goal

pub loop-item-preserved : goal.loop-item-preserved
loop-item-preserved c =
    next_at boolean_value c.args.items.now c.loop-item.item-index false (omega (arith, c.loop-item-test.true)) c.loop-item.invariant c.in_ok-boolean_value.ensures
