use Rattle.std.proofs.Common.{arith}
use Rattle.opentelemetry.specs.View.{link_of}
use Rattle.otel_otlp.specs.Traces.{link}
use Rattle.otel_otlp.proofs.Tokens.{next_mapped}
use Rattle.otel_otlp.proofs.traces.links.Goals as goal

pub loop-item-preserved : goal.loop-item-preserved
loop-item-preserved c =
    next_mapped link link_of c.args.items.now c.loop-item.item-index c.item-item.result (omega (arith, c.loop-item-test.true)) c.item-item.is
    c.loop-item.invariant c.in_ok-link.ensures
