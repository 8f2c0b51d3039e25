use Rattle.std.proofs.Common.{sym, ap, ◌∙◌, arith}
use Rattle.std.proofs.lemmas.List.{get_or_past}
use Rattle.otel_context.specs.Links.{no_slot, put, slot_at, live_slot}
use Rattle.otel_context.specs.SlotVec.{SlotVecState}
use Rattle.otel_context.specs.declared.stack.slots.slot_vec.Slot.{Slot}
use Rattle.otel_context.proofs.LinkLemmas.{read, put-set, put-push}
use Rattle.otel_context.proofs.stack.slots.slot_vec.SlotVec.set_live.Goals as goal

pub returns-then-position-len-clause-live : goal.returns-then-position-len-clause-live
returns-then-position-len-clause-live c =
    let xs = c.self.inside.slots.items in
    let p = c.args.position in
    let x = c.index_mut-slot.result.now in
    let is_x = read xs p x c.index_mut-slot.ensures.value (omega (arith, c.if-position-len.true, c.len.ensures)) in
    put-set xs p (live_slot c.args.older x) (omega (arith, c.if-position-len.true, c.len.ensures)) ∙ ap (λ (s : Slot). put xs p (live_slot c.args.older s)) is_x
    ∙ ap (λ (s : SlotVecState). put s.items p (live_slot c.args.older (slot_at s.items p))) c.self.view_is

pub returns-in_ok-push-clause-live : goal.returns-in_ok-push-clause-live
returns-in_ok-push-clause-live c =
    let xs = c.self.inside.slots.items in
    let p = c.args.position in
    let more = c.if-position-len.false in
    let past = get_or_past xs p no_slot (omega (arith, more, c.len.ensures)) in
    let within = rw (← c.self.view_is) at c.requires.within in
    c.in_ok-push.ensures.items ∙ put-push xs p (live_slot c.args.older no_slot) (omega (arith, within, more, c.len.ensures)) ∙ ap (λ (s : Slot). put xs p (live_slot c.args.older s)) (sym past)
    ∙ ap (λ (s : SlotVecState). put s.items p (live_slot c.args.older (slot_at s.items p))) c.self.view_is
