use Rattle.otel_proto_batches.proofs.SameBatches.{equal_logs}
use Rattle.otel_proto_batches.proofs.laws.equal_logs_say_same.Goals as goal

pub returns : goal.returns
returns c = equal_logs
