use Rattle.std.proofs.Common.{rules}
use Rattle.otel_sdk.proofs.Received.{received-none}
use Rattle.otel_sdk.proofs.trace.processor.batch.BatchSpanProcessor.new.Goals as goal

pub returns-clause-account : goal.returns-clause-account
returns-clause-account g c =
    received-none g.E.Exporter.accepted g.E.Exporter.calls c.args.exporter c.args.config _ (search rules)
