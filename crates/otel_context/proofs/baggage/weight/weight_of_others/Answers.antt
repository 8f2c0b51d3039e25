use Rattle.std.proofs.Common.{◌-◌, Some, sym, ap, ◌∙◌, arith}
use Rattle.std.specs.Option.{option_copied}
use Rattle.otel_context.specs.BaggageView.{entry_member, entry_members}
use Rattle.otel_context.proofs.shared.BaggagePuts.{get_is, member_found, weight_held, others_held, others_taken}
use Rattle.otel_context.proofs.shared.BaggagePuts.{others_refused}
use Rattle.otel_context.proofs.baggage.weight.weight_of_others.Goals as goal

pub weight_of-requires : goal.weight_of-requires
weight_of-requires c =
    let es = c.args.held.now in
    let found = member_found es c.args.key.now c.in-Some.pair.now (get_is es c.args.key.now ∙ sym c.requires.pair ∙ ap option_copied c.in-Some.is) in
    let some = weight_held (entry_members es) c.args.key.now (entry_member (c.args.key.now, c.in-Some.pair.now)) found in
    omega (arith, some, c.requires.baggage.light)

pub overflow_sub-result : goal.overflow_sub-result
overflow_sub-result c =
    let es = c.args.held.now in
    let found = member_found es c.args.key.now c.in-Some.pair.now (get_is es c.args.key.now ∙ sym c.requires.pair ∙ ap option_copied c.in-Some.is) in
    let some = weight_held (entry_members es) c.args.key.now (entry_member (c.args.key.now, c.in-Some.pair.now)) found in
    omega (arith, some, c.requires.sum, c.weight_of.ensures)

pub returns-in-Some : goal.returns-in-Some
returns-in-Some c =
    let es = c.args.held.now in
    let is = others_held es c.args.key.now c.in-Some.pair.now (get_is es c.args.key.now ∙ sym c.requires.pair ∙ ap option_copied c.in-Some.is) in
    (λ i. Some (c.requires.sum i - c.weight_of.ensures i)) ∙ sym is

pub returns-then-takes_new_key : goal.returns-then-takes_new_key
returns-then-takes_new_key c =
    let none = get_is c.args.held.now c.args.key.now ∙ sym c.requires.pair ∙ ap option_copied c.in-None.is in
    (λ i. Some (c.requires.sum i)) ∙ sym (others_taken c.args.held.now c.args.key.now c.takes_new_key.result none c.takes_new_key.ensures c.if-takes_new_key.true)

pub returns-else-takes_new_key : goal.returns-else-takes_new_key
returns-else-takes_new_key c =
    let none = get_is c.args.held.now c.args.key.now ∙ sym c.requires.pair ∙ ap option_copied c.in-None.is in
    sym (others_refused c.args.held.now c.args.key.now c.takes_new_key.result none c.takes_new_key.ensures c.if-takes_new_key.false)
