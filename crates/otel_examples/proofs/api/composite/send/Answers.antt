use Rattle.std.proofs.Common.{refl, sym, ap, ◌∙◌}
use denote.Param.Object.{read_made}
use borrow.Pointer.Hide.{carried_sameᵐ}
use Rattle.opentelemetry.specs.Carrier.{CarrierState, map_state}
use Rattle.opentelemetry.proofs.shared.Setting.{injects_moved}
use Rattle.otel_examples.proofs.api.composite.send.OwnLists as own
use Rattle.otel_examples.proofs.api.composite.send.Goals as goal

pub returns : goal.returns
returns g c =
    let after = read_made own.own-2 own.entry-2-1 own.at-2-1 own.same-2-1 CarrierState (λ j y. j.1.state y) _ _ _ c.headers-1.given.2 in
    let moved = injects_moved c.inject_context.result _ _ _ _ _ _
    (carried_sameᵐ _ _ own.entry-2-1 (own.own-2.entry own.at-2-1) own.same-2-1 CarrierState (λ j r. j.1.state r.now) _)
    (after ∙ sym (ap (λ m. map_state m.entries) (c.headers-2-1.given.1 refl)))
    c.inject_context.ensures.injected in
    moved
