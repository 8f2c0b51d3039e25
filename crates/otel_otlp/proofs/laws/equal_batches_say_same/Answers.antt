use Rattle.otel_otlp.proofs.OneBatch.{equal_batches_say_same}
use Rattle.otel_otlp.proofs.laws.equal_batches_say_same.Goals as goal

pub returns : goal.returns
returns c = equal_batches_say_same
