use Rattle.otel_proto_answers.proofs.Joined.{merged_are_joined}
use Rattle.otel_proto_answers.proofs.laws.merged_messages_are_joined.Goals as goal

pub returns : goal.returns
returns c = merged_are_joined
