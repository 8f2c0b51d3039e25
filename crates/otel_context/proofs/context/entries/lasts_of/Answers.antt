use Rattle.std.proofs.Common.{◌≡◌, ◌+◌, ◌<◌, length, min, slice_set, refl, sym, ap, ◌∙◌, arith, rules}
use Rattle.std.specs.declared.alloc.Global.{Global}
use Rattle.std.specs.declared.rc.Rc.{Rc}
use Rattle.otel_context.specs.View.{slots}
use Rattle.otel_context.specs.declared.context.entries.Entry.{Entry}
use Rattle.otel_context.proofs.EntryLemmas.{lasts_none, lasts_more, slot_at}
use Rattle.otel_context.proofs.context.entries.lasts_of.Goals.{then-index-lt-FAR, else-index-lt-FAR}
use Rattle.otel_context.proofs.context.entries.lasts_of.Goals as goal

pub loop-entry-init : goal.loop-entry-init
loop-entry-init c = (refl, refl, lasts_none (slots c.args.items.now))

pub loop-entry-preserved : goal.loop-entry-preserved
loop-entry-preserved c =
    let i = c.loop-entry.entry-index in
    let e = c.entry-item.result in
    let long : length (slice_set c.loop-entry.lasts c.deref.result.now.slot c.loop-entry.index) ≡ 128 = search rules in
    let within : c.deref.result.now.slot < 128 = search rules in
    let slot : c.deref.result.now.slot ≡ e.value.slot = ap (λ (e : Entry). e.slot) c.deref.ensures in
    let at = slot_at c.args.items.now i e c.loop-entry-test.true ∙ sym (ap (λ (e : Rc Entry Global). e.value.slot) c.entry-item.is) ∙ sym slot in
    let next : c.if-index-lt-FAR.index ≡ min (i + 1) 254 = elim c.if-index-lt-FAR.branch [
      | then-index-lt-FAR w ↦ omega arith
      | else-index-lt-FAR w ↦ omega arith
    ] in (
      long,
      next,
      lasts_more c.loop-entry.lasts (slots c.args.items.now) i c.deref.result.now.slot c.loop-entry.index c.loop-entry.invariant.0 within c.loop-entry.invariant.1 at c.loop-entry.invariant.2,
    )
