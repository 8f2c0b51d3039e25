use Rattle.std.proofs.Common.{rules}
use Rattle.otel_sdk.proofs.Received.{received-more}
use Rattle.otel_sdk.proofs.trace.processor.batch.BatchSpanProcessor.collect.Goals as goal

pub returns-clause-queued : goal.returns-clause-queued
returns-clause-queued g c = search rules

pub returns-clause-account : goal.returns-clause-account
returns-clause-account g c =
    received-more g.E.Exporter.accepted g.E.Exporter.calls c.args.span _ _ (returns-clause-queued g c)
