use Rattle.std.proofs.Common.{rules}
use Rattle.otel_sdk.specs.Processor.{HasReceived}
use Rattle.otel_sdk.proofs.Received.{account_from}
use Rattle.otel_sdk.proofs.trace.processor.simple.SimpleSpanProcessorSpanProcessor.force_flush.Goals as goal

pub returns-clause-account : goal.returns-clause-account
returns-clause-account g c = account_from (HasReceived g.E.Exporter.accepted g.E.Exporter.calls)
    (λ ended. HasReceived g.E.Exporter.accepted g.E.Exporter.calls c.force_flush.new.self ended) _ c.self.inside.inner (search rules)
    c.force_flush.ensures.account
