use Rattle.otel_proto_answers.proofs.ReadBack.{response_reads_back}
use Rattle.otel_proto_answers.proofs.laws.written_response_reads_back.Goals as goal

pub returns : goal.returns
returns c = response_reads_back
