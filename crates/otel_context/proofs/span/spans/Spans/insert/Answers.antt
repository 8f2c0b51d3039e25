use Rattle.std.proofs.Common.{◌≡◌, ◌+◌, List, [], ◌∷◌, ◌++◌, length, ap, ◌∙◌, arith}
use Rattle.otel_context.specs.View.{spans_of}
use Rattle.otel_context.specs.declared.span.spans.Slot.{Slot}
use Rattle.otel_context.proofs.SpanSlots.{numbered, fresh, kept, pushed-both, pushed-spans}
use Rattle.otel_context.proofs.span.spans.Spans.insert.Goals as goal

pub returns-then-number-clause-numbered : goal.returns-then-number-clause-numbered
returns-then-number-clause-numbered g c = rw (← c.self.view_is) (numbered c.self.inside.next c.self.inside.slots.items c.self.inside.places.items c.self.invariant.0 c.self.invariant.1)

pub returns-then-is_err-clause-numbered : goal.returns-then-is_err-clause-numbered
returns-then-is_err-clause-numbered g c = rw (← c.self.view_is) (numbered c.self.inside.next c.self.inside.slots.items c.self.inside.places.items c.self.invariant.0 c.self.invariant.1)

pub invariant_of-self-2 : goal.invariant_of-self-2
invariant_of-self-2 g c =
    let t = c.self.inside in
    let qs = c.make_room.new.places.items in
    let e = c.push_reserved.ensures.items ∙ ap (λ (l : List (Slot _)). l ++ record { span = c.args.span; number = t.next } ∷ []) c.make_room.ensures.same_slots in
    let l : c.len.result ≡ length t.slots.items = omega (arith, c.len.ensures, c.make_room.new.slots.ok.0, ap length c.make_room.ensures.same_slots) in
    let k = kept t.next t.slots.items t.places.items qs c.self.invariant.0 c.self.invariant.1 c.make_room.ensures.kept_places in
    pushed-both t.next c.len.result t.slots.items c.push_reserved.new.self.items qs c.push_reserved-2.new.self.items k.0 k.1 c.args.span e c.push_reserved-2.ensures.items l

pub returns-clause-numbered : goal.returns-clause-numbered
returns-clause-numbered g c = rw (← c.self.view_is) (numbered c.self.inside.next c.self.inside.slots.items c.self.inside.places.items c.self.invariant.0 c.self.invariant.1)

pub returns-clause-fresh : goal.returns-clause-fresh
returns-clause-fresh g c = rw (← c.self.view_is) (fresh c.self.inside.next c.self.inside.slots.items c.self.inside.places.items c.self.invariant.0 c.self.invariant.1)

pub returns-clause-inserted : goal.returns-clause-inserted
returns-clause-inserted g c =
    let t = c.self.inside in
    let e = c.push_reserved.ensures.items ∙ ap (λ (l : List (Slot _)). l ++ record { span = c.args.span; number = t.next } ∷ []) c.make_room.ensures.same_slots in
    rw (← c.self.view_is) (ap (λ spans. record { spans = spans; next_number = t.next + 1 })
    (ap spans_of e ∙ pushed-spans t.next t.slots.items t.places.items c.self.invariant.0 c.self.invariant.1 c.args.span))
