use Rattle.otel_proto.proofs.shared.ReadBack.{equal_bytes}
use Rattle.otel_proto.proofs.laws.equal_bytes_say_same.Goals as goal

pub returns : goal.returns
returns c = equal_bytes
