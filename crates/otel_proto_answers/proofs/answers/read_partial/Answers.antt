use Rattle.std.proofs.Common.{w64, rules, ◌∙◌}
use mir.Val.{SFits}
use Rattle.std.proofs.lemmas.Int.{to_z-of_z}
use Rattle.otel_proto_answers.specs.Seen.{scalars_of}
use Rattle.otel_proto_answers.proofs.Answering.{response_said, response_tells, response_has_message}
use Rattle.otel_proto_answers.proofs.answers.read_partial.Goals as goal

pub returns-in_err-message-in-Some-clause-memory : goal.returns-in_err-message-in-Some-clause-memory
returns-in_err-message-in-Some-clause-memory c is =
    response_has_message c.args.body.now (scalars_of c.in-Some.scalars) c.in-Some.ensures c.in_err-message-in-Some.ensures.err

pub returns-in_ok-message-in-Some-clause-ok : goal.returns-in_ok-message-in-Some-clause-ok
returns-in_ok-message-in-Some-clause-ok c =
    let z = c.cast_signed-rejected.result in
    let fits : SFits w64 z = search rules in
    response_tells c.args.body.now (scalars_of c.in-Some.scalars) _ _ c.in-Some.ensures (to_z-of_z w64 z fits ∙ c.cast_signed-rejected.ensures) c.in_ok-message-in-Some.ensures.ok

pub returns-in-None-clause-malformed : goal.returns-in-None-clause-malformed
returns-in-None-clause-malformed c is = response_said c.args.body.now _ c.in-None.ensures
