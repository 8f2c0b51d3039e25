use Rattle.std.proofs.Common.{arith, subst}
use Rattle.otel_otlp.specs.Common.{text_value}
use Rattle.otel_otlp.specs.Tokens.{HasValue}
use Rattle.otel_otlp.proofs.Tokens.{next_item}
use Rattle.otel_otlp.proofs.common.text_values.Goals as goal

pub loop-item-preserved : goal.loop-item-preserved
loop-item-preserved c =
    next_item text_value c.args.items.now c.loop-item.item-index c.item-item.result (omega (arith, c.loop-item-test.true)) c.item-item.is
    c.loop-item.invariant (subst (λ s. HasValue c.loop-item.out c.text_value.new.out (text_value s)) c.as_str.ensures c.in_ok-text_value.ensures)
