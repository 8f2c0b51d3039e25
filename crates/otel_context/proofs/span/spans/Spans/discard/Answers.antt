use Rattle.std.proofs.Common.{◌≡◌, true, is_some, sym, ap, ◌∙◌, arith}
use Rattle.otel_context.proofs.SpanSlotsTaken.{nothing-out, taken-ascends, some-left, discarded}
use Rattle.otel_context.proofs.span.spans.Spans.discard.Goals as goal

pub invariant_of-self : goal.invariant_of-self
invariant_of-self g c =
    let t = c.self.inside in
    (c.in-None.ensures.ascends t.next c.self.invariant.0, (nothing-out t.slots.items t.places.items c.vacate.new.places.items t.next c.args.number c.self.invariant.0 c.self.invariant.1 c.in-None.ensures).0)

pub returns-in-None-clause-found : goal.returns-in-None-clause-found
returns-in-None-clause-found g c =
    let t = c.self.inside in
    rw (← (c.self.view_is ∙ c.tidy.ensures)) (sym (ap is_some (nothing-out t.slots.items t.places.items c.vacate.new.places.items t.next c.args.number c.self.invariant.0 c.self.invariant.1 c.in-None.ensures).1))

pub returns-in-None-clause-taken : goal.returns-in-None-clause-taken
returns-in-None-clause-taken g c =
    let t = c.self.inside in
    rw (← (c.self.view_is ∙ c.tidy.ensures)) (ap (λ spans. record { spans = spans; next_number = t.next })
    (nothing-out t.slots.items t.places.items c.vacate.new.places.items t.next c.args.number c.self.invariant.0 c.self.invariant.1 c.in-None.ensures).2)

pub is-left : (g : _) (c : goal.Joined-pop g) → is_some c.pop.result ≡ true
is-left g c =
    let t = c.self.inside in
    let l = some-left t.slots.items t.places.items c.vacate.new.places.items c.bring_last.new.places.items t.next c.args.number c.in-Some.slot c.self.invariant.0 c.self.invariant.1 c.in-Some.ensures
    c.bring_last.new.slots.items c.bring_last.ensures in
    c.pop.ensures.variant.1 (omega (arith, l, c.bring_last.new.slots.ok.0))

pub invariant_of-self-2 : goal.invariant_of-self-2
invariant_of-self-2 g c =
    let t = c.self.inside in (
      taken-ascends t.slots.items t.places.items c.vacate.new.places.items c.bring_last.new.places.items t.next c.args.number c.in-Some.slot c.self.invariant.0 c.self.invariant.1 c.in-Some.ensures
          c.bring_last.new.slots.items c.bring_last.ensures,
      (discarded t.slots.items t.places.items c.vacate.new.places.items c.bring_last.new.places.items t.next c.args.number c.in-Some.slot c.self.invariant.0 c.self.invariant.1 c.in-Some.ensures
          c.bring_last.new.slots.items c.bring_last.ensures c.pop.new.self.items c.pop.result c.pop.ensures.items (is-left g c)).0,
    )

pub returns-clause-found : goal.returns-clause-found
returns-clause-found g c =
    let t = c.self.inside in
    rw (← (c.self.view_is ∙ c.tidy.ensures)) (c.is_some.ensures ∙ is-left g c
    ∙ sym (discarded t.slots.items t.places.items c.vacate.new.places.items c.bring_last.new.places.items t.next c.args.number c.in-Some.slot c.self.invariant.0 c.self.invariant.1 c.in-Some.ensures
    c.bring_last.new.slots.items c.bring_last.ensures c.pop.new.self.items c.pop.result c.pop.ensures.items (is-left g c)).2)

pub returns-clause-taken : goal.returns-clause-taken
returns-clause-taken g c =
    let t = c.self.inside in
    rw (← (c.self.view_is ∙ c.tidy.ensures)) (ap (λ spans. record { spans = spans; next_number = t.next })
    (discarded t.slots.items t.places.items c.vacate.new.places.items c.bring_last.new.places.items t.next c.args.number c.in-Some.slot c.self.invariant.0 c.self.invariant.1 c.in-Some.ensures
    c.bring_last.new.slots.items c.bring_last.ensures c.pop.new.self.items c.pop.result c.pop.ensures.items (is-left g c)).1)
