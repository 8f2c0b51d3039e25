use Rattle.std.proofs.Common.{◌≡◌, length}
use Rattle.std.specs.Prelude.{option_and_then}
use Rattle.otel_proto.specs.Wire.{read}
use Rattle.otel_proto_answers.specs.Answers.{unwritten}
use Rattle.otel_proto_answers.specs.Seen.{scalars_of, response_after}
use Rattle.otel_proto_answers.proofs.scalars.read_partial_success.Given as goal

abbrev pub invariant-loop-rest : goal.invariant-loop-rest
invariant-loop-rest l =
    option_and_then (response_after unwritten) (read l.bytes) ≡ option_and_then (response_after (scalars_of l.scalars)) (read l.rest)

abbrev pub decreases-loop-rest : goal.decreases-loop-rest
decreases-loop-rest l = length l.rest
