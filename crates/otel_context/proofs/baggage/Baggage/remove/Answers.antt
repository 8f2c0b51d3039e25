use Rattle.std.proofs.Common.{sym, ap, ◌∙◌, arith, length}
use Rattle.otel_context.specs.Baggage.{remove, get_with_metadata}
use Rattle.otel_context.proofs.shared.BaggagePuts.{removed, not_found, not_removed, not_past}
use Rattle.otel_context.proofs.baggage.Baggage.remove.Goals as goal

pub returns-in_err-index-clause-list : goal.returns-in_err-index-clause-list
returns-in_err-index-clause-list c =
    sym c.self.view_is
    ∙ not_removed c.self.inside.inner c.args.key.now (sym c.index_of.ensures ∙ c.in_err-index.was)
    ∙ ap (λ l. remove l c.args.key.now) c.self.view_is

pub returns-in_err-index-clause-old : goal.returns-in_err-index-clause-old
returns-in_err-index-clause-old c =
    c.from_residual.ensures
    ∙ sym (not_found c.self.inside.inner c.args.key.now (sym c.index_of.ensures ∙ c.in_err-index.was))
    ∙ ap (λ l. get_with_metadata l c.args.key.now) c.self.view_is

pub weight_of-requires : goal.weight_of-requires
weight_of-requires c =
    let out = removed c.self.inside.inner c.remove_at.new.self c.args.key.now c.in_ok-index.index (c.in_ok-name.name, c.in_ok-name.pair) c.self.invariant.0 (sym c.index_of.ensures ∙ c.in_ok-index.was) (sym c.in_ok-name.was ∙ c.remove_at.ensures.entry) c.remove_at.ensures.entries c.remove_at.ensures.distinct in
    omega (arith, out.sum, c.self.invariant.0.light, ap length c.as_str.ensures)

pub overflow_sub-self : goal.overflow_sub-self
overflow_sub-self c =
    let out = removed c.self.inside.inner c.remove_at.new.self c.args.key.now c.in_ok-index.index (c.in_ok-name.name, c.in_ok-name.pair) c.self.invariant.0 (sym c.index_of.ensures ∙ c.in_ok-index.was) (sym c.in_ok-name.was ∙ c.remove_at.ensures.entry) c.remove_at.ensures.entries c.remove_at.ensures.distinct in
    omega (arith, out.sum, c.self.invariant.1, c.weight_of.ensures, ap length c.as_str.ensures)

pub invariant_of-self-2 : goal.invariant_of-self-2
invariant_of-self-2 c =
    let out = removed c.self.inside.inner c.remove_at.new.self c.args.key.now c.in_ok-index.index (c.in_ok-name.name, c.in_ok-name.pair) c.self.invariant.0 (sym c.index_of.ensures ∙ c.in_ok-index.was) (sym c.in_ok-name.was ∙ c.remove_at.ensures.entry) c.remove_at.ensures.entries c.remove_at.ensures.distinct in
    (out.baggage, omega (arith, out.sum, c.self.invariant.1, c.weight_of.ensures, ap length c.as_str.ensures))

pub returns-clause-list : goal.returns-clause-list
returns-clause-list c =
    let out = removed c.self.inside.inner c.remove_at.new.self c.args.key.now c.in_ok-index.index (c.in_ok-name.name, c.in_ok-name.pair) c.self.invariant.0 (sym c.index_of.ensures ∙ c.in_ok-index.was) (sym c.in_ok-name.was ∙ c.remove_at.ensures.entry) c.remove_at.ensures.entries c.remove_at.ensures.distinct in
    out.list ∙ ap (λ l. remove l c.args.key.now) c.self.view_is

pub returns-clause-old : goal.returns-clause-old
returns-clause-old c =
    let out = removed c.self.inside.inner c.remove_at.new.self c.args.key.now c.in_ok-index.index (c.in_ok-name.name, c.in_ok-name.pair) c.self.invariant.0 (sym c.index_of.ensures ∙ c.in_ok-index.was) (sym c.in_ok-name.was ∙ c.remove_at.ensures.entry) c.remove_at.ensures.entries c.remove_at.ensures.distinct in
    out.given ∙ ap (λ l. get_with_metadata l c.args.key.now) c.self.view_is

pub invariant_of-self : goal.invariant_of-self
invariant_of-self c = absurd (not_past c.self.inside.inner c.args.key.now c.in_ok-index.index (sym c.index_of.ensures ∙ c.in_ok-index.was) (sym c.in_err-name.was ∙ c.remove_at.ensures.entry))

pub returns-in_err-name-clause-list : goal.returns-in_err-name-clause-list
returns-in_err-name-clause-list c = absurd (not_past c.self.inside.inner c.args.key.now c.in_ok-index.index (sym c.index_of.ensures ∙ c.in_ok-index.was) (sym c.in_err-name.was ∙ c.remove_at.ensures.entry))

pub returns-in_err-name-clause-old : goal.returns-in_err-name-clause-old
returns-in_err-name-clause-old c = absurd (not_past c.self.inside.inner c.args.key.now c.in_ok-index.index (sym c.index_of.ensures ∙ c.in_ok-index.was) (sym c.in_err-name.was ∙ c.remove_at.ensures.entry))
