use Rattle.std.proofs.Common.{◌≡◌, ◌<◌, true, Some, bytes_eq, length, slice_index, sym, ap, ◌∙◌, rules}
use Rattle.std.specs.FinMap.{get}
use Rattle.otel_base.specs.View.{tree}
use Rattle.otel_context.specs.Context.{EntryMap}
use Rattle.otel_context.specs.View.{slot_number}
use Rattle.otel_context.specs.declared.context.entries.Entry.{Entry}
use Rattle.otel_context.proofs.EntryLemmas.{get_seen, find_empty, find_at}
use Rattle.otel_context.proofs.context.entries.Entries.get.Goals as goal

pub returns-then-last : goal.returns-then-last
returns-then-last c =
    let lasts = c.self.inside.table.lasts in
    let es = c.self.inside.table.items.items in
    let empty : slice_index lasts (slot_number c.args.key.now) ≡ 255 = search rules in
    sym (ap (λ (m : EntryMap). get m c.args.key.now) (sym c.self.view_is)
    ∙ get_seen es c.args.key.now
    ∙ find_empty c.args.key.now lasts es empty c.self.invariant.1 c.self.invariant.2)

pub returns-then-eq : goal.returns-then-eq
returns-then-eq c =
    let es = c.self.inside.table.items.items in
    let within : c.from.result < length es = search rules in
    let named : bytes_eq c.args.key.now c.index-entry.result.now.value.key ≡ true = cc in
    sym (ap (λ (m : EntryMap). get m c.args.key.now) (sym c.self.view_is)
    ∙ get_seen es c.args.key.now
    ∙ find_at c.args.key.now es c.from.result c.index-entry.result.now c.self.invariant.0 c.self.invariant.1 within c.index-entry.ensures named
    ∙ ap (λ (e : Entry). Some (tree e.value)) (sym c.as_ref.ensures))
