use Rattle.std.proofs.Common.{◌≡◌, ◌+◌, List, [], ◌∷◌, ◌++◌, length, ap, ◌∙◌, arith}
use Rattle.otel_context.specs.View.{spans_of}
use Rattle.otel_context.specs.declared.span.spans.Slot.{Slot}
use Rattle.otel_context.proofs.SpanSlots.{numbered, kept, pushed-both, pushed-spans}
use Rattle.otel_context.proofs.context.Context.with_span.Goals as goal

pub returns-in-Err-clause-numbered : goal.returns-in-Err-clause-numbered
returns-in-Err-clause-numbered g c = rw (← c.spans.view_is) (numbered c.spans.inside.next c.spans.inside.slots.items c.spans.inside.places.items c.spans.invariant.0 c.spans.invariant.1)

pub invariant_of-spans-2 : goal.invariant_of-spans-2
invariant_of-spans-2 g c =
    let t = c.spans.inside in
    let qs = c.prepare-made.new.places.items in
    let e = c.push_reserved.ensures.items ∙ ap (λ (l : List (Slot _)). l ++ record { span = c.args.span; number = t.next } ∷ []) c.prepare-made.ensures.same_slots in
    let l : c.len.result ≡ length t.slots.items = omega (arith, c.len.ensures, c.prepare-made.new.slots.ok.0, ap length c.prepare-made.ensures.same_slots) in
    let k = kept t.next t.slots.items t.places.items qs c.spans.invariant.0 c.spans.invariant.1 c.prepare-made.ensures.kept_places in
    pushed-both t.next c.len.result t.slots.items c.push_reserved.new.self.items qs c.push_reserved-2.new.self.items k.0 k.1 c.args.span e c.push_reserved-2.ensures.items l

pub returns-clause-numbered : goal.returns-clause-numbered
returns-clause-numbered g c = rw (← c.spans.view_is) (numbered c.spans.inside.next c.spans.inside.slots.items c.spans.inside.places.items c.spans.invariant.0 c.spans.invariant.1)

pub returns-clause-inserted : goal.returns-clause-inserted
returns-clause-inserted g c =
    let t = c.spans.inside in
    let e = c.push_reserved.ensures.items ∙ ap (λ (l : List (Slot _)). l ++ record { span = c.args.span; number = t.next } ∷ []) c.prepare-made.ensures.same_slots in
    rw (← c.spans.view_is) (ap (λ spans. record { spans = spans; next_number = t.next + 1 })
    (ap spans_of e ∙ pushed-spans t.next t.slots.items t.places.items c.spans.invariant.0 c.spans.invariant.1 c.args.span))
