use Rattle.std.proofs.Common.{◌∙◌, sym, ap}
use Rattle.http_header.specs.FieldValue.{is_visible_text}
use Rattle.otel_context.specs.Baggage.{accepts}
use Rattle.otel_context.specs.BaggageMember.{member_of}
use Rattle.otel_propagators.specs.BaggagePropagator.{members}
use Rattle.otel_c.specs.Member.{given_member}
use Rattle.otel_c.proofs.Members.{refused_by, sets_member}
use Rattle.otel_c.proofs.member.with_member.Goals as goal

pub returns-then-not-accepts-clause-refused : goal.returns-then-not-accepts-clause-refused
returns-then-not-accepts-clause-refused c =
    let held = members c.args.context.now in
    let key = c.args.key.now in
    let value = c.args.value.now in
    let trimmed = c.trim-trimmed.ensures.trim in
    let is = c.accepts.ensures ∙ ap (λ d. accepts held (member_of key value d)) trimmed in
    refused_by (given_member key value c.args.metadata.now) held _ c.reason.ensures
    (sym is ∙ c.if-not-accepts.true)

pub returns-clause-member : goal.returns-clause-member
returns-clause-member c =
    let held = members c.args.context.now in
    let key = c.args.key.now in
    let value = c.args.value.now in
    let trimmed = c.trim-trimmed.ensures.trim in
    let is = c.accepts.ensures ∙ ap (λ d. accepts held (member_of key value d)) trimmed in
    let sendable = ap is_visible_text (sym trimmed) ∙ c.in_ok-check.ensures.sendable in
    sets_member _ _ _ _ _ sendable c.in_ok-baggage.ensures (sym is ∙ c.if-not-accepts.false)
    c.in_ok-insert.ensures c.in_ok-with_baggage.ensures
