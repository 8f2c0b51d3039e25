use Rattle.std.proofs.Common.{refl, sym, ap, ◌∙◌}
use denote.Param.Object.{read_made}
use borrow.Pointer.Hide.{carried_sameᵐ}
use Rattle.opentelemetry.specs.Carrier.{CarrierState}
use Rattle.opentelemetry.proofs.shared.Setting.{injects_moved}
use Rattle.otel_http.specs.Headers.{texts}
use Rattle.otel_http.proofs.there_and_back.inject.OwnLists as own
use Rattle.otel_http.proofs.there_and_back.inject.Goals as goal

pub returns : goal.returns
returns g c =
    let after = read_made own.own-1 own.entry-1-1 own.at-1-1 own.same-1-1 CarrierState (λ j y. j.1.state y) _ _ _ c.injector-1.given.2 in
    injects_moved c.inject_context.result _ _ _ _ _ _
    (carried_sameᵐ _ _ own.entry-1-1 (own.own-1.entry own.at-1-1) own.same-1-1 CarrierState (λ j r. j.1.state r.now) _)
    (after ∙ sym (ap (λ i. record { texts = texts i.headers; refusals = i.refusals }) (c.injector-2-1.given.1 refl)))
    c.inject_context.ensures
