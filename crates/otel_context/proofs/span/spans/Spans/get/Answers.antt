use Rattle.std.proofs.Common.{None, Some, sym, subst, ap, ◌∙◌}
use Rattle.std.specs.Prelude.{option_copied}
use Rattle.otel_context.specs.SpanPlaces.{Finds}
use Rattle.otel_context.specs.View.{map_of}
use Rattle.otel_context.proofs.SpanSlots.{get-at, get-none}
use Rattle.otel_context.proofs.span.spans.Spans.get.Goals as goal

pub returns-in_err-slot : goal.returns-in_err-slot
returns-in_err-slot g c =
    let t = c.self.inside in
    let at : Finds t.places.items c.args.number None = subst (λ l. Finds l c.args.number None) c.deref.ensures.value c.in_err-slot.ensures in
    rw (← c.self.view_is) (ap option_copied c.from_residual.ensures ∙ sym (get-none t.slots.items (map_of t.places.items) c.self.invariant.1 c.args.number (at t.next c.self.invariant.0)))

pub returns : goal.returns
returns g c =
    let t = c.self.inside in
    let i = c.in_ok-slot.slot in
    let s = c.index.result.now in
    let at : Finds t.places.items c.args.number (Some i) = subst (λ l. Finds l c.args.number (Some i)) c.deref.ensures.value c.in_ok-slot.ensures in
    rw (← c.self.view_is) (ap (λ u. Some u.span) c.index.ensures ∙ sym (get-at t.slots.items (map_of t.places.items) c.self.invariant.1 c.args.number i (at t.next c.self.invariant.0) s))
