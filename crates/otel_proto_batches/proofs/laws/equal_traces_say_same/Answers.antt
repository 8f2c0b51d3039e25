use Rattle.otel_proto_batches.proofs.SameBatches.{equal_traces}
use Rattle.otel_proto_batches.proofs.laws.equal_traces_say_same.Goals as goal

pub returns : goal.returns
returns c = equal_traces
