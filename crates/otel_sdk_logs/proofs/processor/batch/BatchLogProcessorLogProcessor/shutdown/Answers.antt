use Rattle.otel_sdk_base.specs.QueueView as queue_view
use Rattle.otel_sdk_logs.proofs.Shutdowns.{keeps_if_open}
use Rattle.otel_sdk_logs.proofs.processor.batch.BatchLogProcessorLogProcessor.shutdown.Goals as goal

pub returns-clause-open : goal.returns-clause-open
returns-clause-open g c =
    keeps_if_open g.E.Exporter.accepted g.E.Exporter.calls c.shutdown.result (queue_view.state c.args.self.now.queue)
    (queue_view.state c.shutdown.new.self) c.shutdown.ensures.0.1
