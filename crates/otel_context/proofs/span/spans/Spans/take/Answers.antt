use Rattle.std.proofs.Common.{sym, ap, ◌∙◌}
use Rattle.otel_context.proofs.SpanSlotsTaken.{nothing-out, taken-ascends, taken-out, TakenOut}
use Rattle.otel_context.proofs.span.spans.Spans.take.Goals as goal

pub invariant_of-self : goal.invariant_of-self
invariant_of-self g c =
    let t = c.self.inside in
    (c.in_err-slot.ensures.ascends t.next c.self.invariant.0, (nothing-out t.slots.items t.places.items c.vacate.new.places.items t.next c.args.number c.self.invariant.0 c.self.invariant.1 c.in_err-slot.ensures).0)

pub returns-in_err-slot-clause-value : goal.returns-in_err-slot-clause-value
returns-in_err-slot-clause-value g c =
    let t = c.self.inside in
    rw (← (c.self.view_is ∙ c.tidy.ensures)) (c.from_residual.ensures ∙ sym (nothing-out t.slots.items t.places.items c.vacate.new.places.items t.next c.args.number c.self.invariant.0 c.self.invariant.1 c.in_err-slot.ensures).1)

pub returns-in_err-slot-clause-taken : goal.returns-in_err-slot-clause-taken
returns-in_err-slot-clause-taken g c =
    let t = c.self.inside in
    rw (← (c.self.view_is ∙ c.tidy.ensures)) (ap (λ spans. record { spans = spans; next_number = t.next })
    (nothing-out t.slots.items t.places.items c.vacate.new.places.items t.next c.args.number c.self.invariant.0 c.self.invariant.1 c.in_err-slot.ensures).2)

pub out : (g : _) (c : goal.In_ok-pop g) → TakenOut c.self.inside.slots.items c.args.number c.bring_last.new.places.items c.pop.new.self.items c.in_ok-pop.field-0
out g c =
    let t = c.self.inside in
    taken-out t.slots.items t.places.items c.vacate.new.places.items c.bring_last.new.places.items t.next c.args.number c.in_ok-slot.slot c.self.invariant.0 c.self.invariant.1 c.in_ok-slot.ensures
    c.bring_last.new.slots.items c.bring_last.ensures c.pop.new.self.items c.in_ok-pop.field-0 c.in_ok-pop.ensures.items

pub invariant_of-self-2 : goal.invariant_of-self-2
invariant_of-self-2 g c =
    let t = c.self.inside in (
      taken-ascends t.slots.items t.places.items c.vacate.new.places.items c.bring_last.new.places.items t.next c.args.number c.in_ok-slot.slot c.self.invariant.0 c.self.invariant.1 c.in_ok-slot.ensures
          c.bring_last.new.slots.items c.bring_last.ensures,
      (out g c).index,
    )

pub returns-clause-value : goal.returns-clause-value
returns-clause-value g c = rw (← (c.self.view_is ∙ c.tidy.ensures)) (sym (out g c).value)

pub returns-clause-taken : goal.returns-clause-taken
returns-clause-taken g c = rw (← (c.self.view_is ∙ c.tidy.ensures)) (ap (λ spans. record { spans = spans; next_number = c.self.inside.next }) (out g c).spans)
