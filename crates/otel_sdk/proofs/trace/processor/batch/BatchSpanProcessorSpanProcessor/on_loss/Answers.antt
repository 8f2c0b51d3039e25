use Rattle.std.proofs.Common.{rules}
use Rattle.otel_sdk.proofs.Received.{received-lost}
use Rattle.otel_sdk.proofs.trace.processor.batch.BatchSpanProcessorSpanProcessor.on_loss.Goals as goal

pub returns-clause-loses : goal.returns-clause-loses
returns-clause-loses g c = search rules

pub returns-clause-account : goal.returns-clause-account
returns-clause-account g c =
    received-lost g.E.Exporter.accepted g.E.Exporter.calls c.args.span.now _ _ (returns-clause-loses g c)
