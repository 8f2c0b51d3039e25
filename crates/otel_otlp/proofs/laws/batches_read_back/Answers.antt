use Rattle.otel_otlp.proofs.ReadBackLines.{batches_read_back}
use Rattle.otel_otlp.proofs.laws.batches_read_back.Goals as goal

pub returns : goal.returns
returns c = batches_read_back
