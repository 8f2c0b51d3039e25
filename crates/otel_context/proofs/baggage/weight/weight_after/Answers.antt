use Rattle.std.proofs.Common.{sym, ◌∙◌}
use Rattle.otel_context.specs.BaggageMember.{member_of}
use Rattle.otel_context.specs.BaggageView.{entry_members}
use Rattle.otel_context.proofs.shared.BaggagePuts.{after_is, after_none}
use Rattle.otel_context.proofs.baggage.weight.weight_after.Goals as goal

pub returns-in_err-others : goal.returns-in_err-others
returns-in_err-others c =
    let m = member_of c.args.key.now c.args.value.now c.args.metadata.now in
    c.from_residual.ensures ∙ sym (after_none (entry_members c.args.held.now) m (sym c.weight_of_others.ensures ∙ c.in_err-others.was))

pub returns : goal.returns
returns c =
    let m = member_of c.args.key.now c.args.value.now c.args.metadata.now in
    c.weight_with.ensures ∙ after_is (entry_members c.args.held.now) m c.in_ok-others.others c.requires.baggage.distinct (sym c.weight_of_others.ensures ∙ c.in_ok-others.was)
