use Rattle.otel_sdk.proofs.Received.{received-collected}
use Rattle.otel_sdk.proofs.trace.processor.batch.BatchSpanProcessorSpanProcessor.on_end.Goals as goal

pub returns-clause-ends : goal.returns-clause-ends
returns-clause-ends g c = (c.make_space.new.self, c.make_space.ensures.space, c.collect.ensures.queued)

pub returns-clause-account : goal.returns-clause-account
returns-clause-account g c =
    received-collected g.E.Exporter.accepted g.E.Exporter.calls c.args.span _ _ (returns-clause-ends g c)
