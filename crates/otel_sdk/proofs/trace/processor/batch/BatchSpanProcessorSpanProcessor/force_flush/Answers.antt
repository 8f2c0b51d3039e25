use Rattle.std.proofs.Common.{rules}
use Rattle.otel_sdk.proofs.Received.{received-flushed}
use Rattle.otel_sdk.proofs.trace.processor.batch.BatchSpanProcessorSpanProcessor.force_flush.Goals as goal

pub returns-clause-flushes : goal.returns-clause-flushes
returns-clause-flushes g c = search rules

pub returns-clause-account : goal.returns-clause-account
returns-clause-account g c =
    received-flushed g.E.Exporter.accepted g.E.Exporter.calls _ _ c.force_flush-flushed.result (returns-clause-flushes g c)
