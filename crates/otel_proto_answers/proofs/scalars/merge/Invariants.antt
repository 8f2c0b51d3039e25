use Rattle.std.proofs.Common.{◌≡◌, length}
use Rattle.std.specs.Prelude.{option_and_then}
use Rattle.otel_proto.specs.Wire.{read}
use Rattle.otel_proto_answers.specs.Answers.{scalars}
use Rattle.otel_proto_answers.specs.Seen.{scalars_of}
use Rattle.otel_proto_answers.proofs.scalars.merge.Given as goal

abbrev pub invariant-loop-rest : goal.invariant-loop-rest
invariant-loop-rest l =
    option_and_then (scalars (scalars_of l.before)) (read l.bytes) ≡ option_and_then (scalars (scalars_of l.scalars)) (read l.rest)

abbrev pub decreases-loop-rest : goal.decreases-loop-rest
decreases-loop-rest l = length l.rest
