use Rattle.std.proofs.Common.{◌∷◌, Some, sym, ap, ◌∙◌}
use Rattle.std.specs.declared.alloc.Global.{Global}
use Rattle.std.specs.declared.rc.Rc.{Rc}
use Rattle.otel_base.specs.View.{tree}
use Rattle.otel_context.specs.declared.context.entries.Entry.{Entry}
use Rattle.otel_context.proofs.EntryLemmas.{get_seen, searchable, find-found, find-missed, find_in_slot}
use Rattle.otel_context.proofs.context.entries.get_far.Goals as goal

pub returns-in-Ok : goal.returns-in-Ok
returns-in-Ok c =
    let es = c.args.items.now in
    let e = c.index-items-at.result in
    sym (get_seen es c.args.key.now
    ∙ find_in_slot c.args.slot c.args.key.now es c.requires.slot c.requires.in_slots
    ∙ find-found (c.args.slot ∷ c.args.key.now) es c.in-Ok.at e c.requires.rising c.in-Ok.ensures.bound c.in-Ok.ensures.position
    ∙ ap (λ (e : Rc Entry Global). Some (tree e.value.value)) (sym c.index-items-at.is)
    ∙ ap (λ (e : Entry). Some (tree e.value)) (sym c.as_ref.ensures))

pub returns-in-Err : goal.returns-in-Err
returns-in-Err c =
    let es = c.args.items.now in
    let k = c.args.slot ∷ c.args.key.now in
    sym (get_seen es c.args.key.now
    ∙ find_in_slot c.args.slot c.args.key.now es c.requires.slot c.requires.in_slots
    ∙ find-missed k es c.in-Err.field-0 (c.in-Err.ensures.position (searchable es k c.requires.rising)))
