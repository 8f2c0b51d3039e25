use Rattle.otel_otlp.proofs.ReadBackLines.{record_batches_read_back}
use Rattle.otel_otlp.proofs.laws.record_batches_read_back.Goals as goal

pub returns : goal.returns
returns c = record_batches_read_back
