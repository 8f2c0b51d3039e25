use Rattle.std.proofs.Common.{sym, ap, ◌∙◌}
use Rattle.std.specs.Prelude.{option_map, option_to_list}
use Rattle.otel_proto_answers.specs.Answers.{scalars}
use Rattle.otel_proto_answers.specs.Parts.{field_of}
use Rattle.otel_proto_answers.specs.Seen.{scalars_of}
use Rattle.otel_proto_answers.proofs.Merging.{scalars_join, goes_on, stops}
use Rattle.otel_proto_answers.proofs.scalars.merge.Goals as goal

pub returns-in_err-scalars : goal.returns-in_err-scalars
returns-in_err-scalars c =
    let part = option_to_list (option_map field_of c.in_ok-part.part) in
    ap (option_map scalars_of) c.from_residual-in_err-scalars.ensures
    ∙ sym (c.loop-rest.invariant ∙ stops scalars scalars_join (scalars_of c.loop-rest.scalars) part c.loop-rest.rest.now c.in_ok-part.after.now c.in_ok-part.ensures.0 c.in_err-scalars.ensures)

pub loop-rest-preserved : goal.loop-rest-preserved
loop-rest-preserved c =
    let part = option_to_list (option_map field_of c.in_ok-part.part) in
    c.loop-rest.invariant
    ∙ goes_on scalars scalars_join (scalars_of c.loop-rest.scalars) (scalars_of c.in_ok-scalars.scalars) part c.loop-rest.rest.now c.in_ok-part.after.now c.in_ok-part.ensures.0 c.in_ok-scalars.ensures
