use Rattle.std.proofs.Common.{w32, rules, ◌∙◌}
use mir.Val.{SFits}
use Rattle.std.proofs.lemmas.Int.{to_z-of_z}
use Rattle.otel_proto_answers.specs.Seen.{scalars_of}
use Rattle.otel_proto_answers.proofs.Answering.{status_tells}
use Rattle.otel_proto_answers.proofs.answers.read_status.Goals as goal

pub returns-in_ok-message-in-Some-clause-ok : goal.returns-in_ok-message-in-Some-clause-ok
returns-in_ok-message-in-Some-clause-ok c =
    let z = c.cast_signed-code.result in
    let fits : SFits w32 z = search rules in
    status_tells c.args.body.now (scalars_of c.in-Some.scalars) _ _ c.in-Some.ensures (to_z-of_z w32 z fits ∙ c.cast_signed-code.ensures) c.in_ok-message-in-Some.ensures.ok
