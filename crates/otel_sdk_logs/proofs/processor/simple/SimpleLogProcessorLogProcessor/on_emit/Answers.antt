use Rattle.std.proofs.Common.{subst}
use Rattle.otel_sdk_base.specs.Queue.{IsForceFlushed, QueueState}
use Rattle.otel_sdk_logs.specs.Batch.{simple_state}
use Rattle.otel_sdk_logs.specs.LogRecord.{LogEntry}
use Rattle.otel_sdk_logs.proofs.processor.simple.SimpleLogProcessorLogProcessor.on_emit.Goals as goal

pub returns-clause-flushed : goal.returns-clause-flushed
returns-clause-flushed g c = (
  c.force_flush.result,
  subst (λ (q : QueueState LogEntry g.row.E.Denot). IsForceFlushed g.E.Exporter.accepted (g.E.Exporter.calls) c.force_flush.result q (simple_state (record { inner = c.force_flush.new.self })))
      c.on_emit.ensures.emitted c.force_flush.ensures,
)
