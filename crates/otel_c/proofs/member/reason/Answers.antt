use Rattle.std.proofs.Common.{◌∙◌, [], sym, ap}
use Rattle.std.proofs.lemmas.Bool.{cond-true, cond-false}
use Rattle.otel_context.specs.Baggage.{accepts}
use Rattle.otel_context.specs.BaggageMember.{member_of}
use Rattle.otel_c.specs.declared.status.Status.TheVariants as status
use Rattle.otel_c.specs.Member.{may_be_key}
use Rattle.otel_c.proofs.member.reason.Goals as goal

pub returns-then-accepts : goal.returns-then-accepts
returns-then-accepts c =
    let key = c.args.key.now in
    let member = member_of key [] [] in
    let is = c.accepts.ensures ∙ ap (λ held. accepts held member) c.new-empty.ensures in
    sym (cond-true (may_be_key key) status.Refused status.Key (sym is ∙ c.if-accepts.true))

pub returns : goal.returns
returns c =
    let key = c.args.key.now in
    let member = member_of key [] [] in
    let is = c.accepts.ensures ∙ ap (λ held. accepts held member) c.new-empty.ensures in
    sym (cond-false (may_be_key key) status.Refused status.Key (sym is ∙ c.if-accepts.false))
