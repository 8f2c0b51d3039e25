use Rattle.otel_proto.proofs.shared.ReadBack.{fields_read_back}
use Rattle.otel_proto.proofs.laws.written_fields_read_back.Goals as goal

pub returns : goal.returns
returns c = fields_read_back
