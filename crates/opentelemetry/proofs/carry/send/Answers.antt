use Rattle.std.proofs.Common.{refl, sym, ap, ◌∙◌}
use denote.Param.Object.{read_made}
use borrow.Pointer.Hide.{carried_sameᵐ}
use Rattle.opentelemetry.specs.Carrier.{CarrierState, map_state}
use Rattle.opentelemetry.proofs.shared.Setting.{injects_moved, texts_moved}
use Rattle.opentelemetry.proofs.carry.send.OwnLists as own
use Rattle.opentelemetry.proofs.carry.send.Goals as goal

pub returns-clause-injected : goal.returns-clause-injected
returns-clause-injected g c =
    let after = read_made own.own-2 own.entry-2-1 own.at-2-1 own.same-2-1 CarrierState (λ j y. j.1.state y) _ _ _ c.carrier-1.given.2 in
    injects_moved c.inject_context.result _ _ _ _ _ _
    (carried_sameᵐ _ _ own.entry-2-1 (own.own-2.entry own.at-2-1) own.same-2-1 CarrierState (λ j r. j.1.state r.now) _)
    (after ∙ sym (ap (λ m. map_state m.entries) (c.carrier-2-1.given.1 refl)))
    c.inject_context.ensures.injected

pub returns-clause-without_members : goal.returns-clause-without_members
returns-clause-without_members g c = λ none.
    let after = read_made own.own-2 own.entry-2-1 own.at-2-1 own.same-2-1 CarrierState (λ j y. j.1.state y) _ _ _ c.carrier-1.given.2 in
    let left = c.inject_context.ensures.without_members none in (
      left.0,
      texts_moved _ _ _ _
          (carried_sameᵐ _ _ own.entry-2-1 (own.own-2.entry own.at-2-1) own.same-2-1 CarrierState (λ j r. j.1.state r.now) _)
          (after ∙ sym (ap (λ m. map_state m.entries) (c.carrier-2-1.given.1 refl)))
          (ap (λ s. s.texts) left.1),
    )
