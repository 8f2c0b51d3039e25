use Rattle.otel_otlp.proofs.RecordNesting.{record_batches_are_shallow}
use Rattle.otel_otlp.proofs.laws.record_batches_are_shallow.Goals as goal

pub returns : goal.returns
returns c = record_batches_are_shallow
