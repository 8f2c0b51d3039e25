use Rattle.std.proofs.Common.{List, ◌≡◌, ◌+◌, ◌<◌, ◌≤◌, true, false, Some, bytes_eq, length, take, get_or, slice_index, sym, ap, subst, ◌∙◌, arith, rules}
use Rattle.std.specs.FinMap.Entries.{find}
use Rattle.std.specs.declared.alloc.Global.{Global}
use Rattle.std.specs.declared.rc.Rc.{Rc}
use Rattle.otel_base.specs.View.{tree}
use Rattle.otel_context.specs.View.{pairs, text_cmp}
use Rattle.otel_context.specs.declared.context.entries.Entry.{Entry}
use Rattle.otel_context.proofs.EntryLemmas.{get_seen, find_at, find_step, find_below, find_older, range_at, range_end}
use Rattle.otel_context.proofs.context.entries.Table.get_older.Goals.{then-loop-first-test+else-deref-slot, else-loop-first-test}
use Rattle.otel_context.proofs.context.entries.Table.get_older.Goals as goal

pub loop-older-init : goal.loop-older-init
loop-older-init c =
    let q = c.args.key.now in
    let es = c.args.self.now.items.items in
    ap (λ n. find text_cmp q (pairs (take n es))) (omega arith)
    ∙ elim c.loop-first-test.branch [
      | then-loop-first-test+else-deref-slot w ↦
          find_below q es c.loop-first.first w.index.result.now c.requires.rising c.requires.in_slots w.loop-first-test.true c.loop-first.invariant.1
          (c.loop-first.invariant.2 ∙ c.slot_of-slot.ensures) w.index.ensures
          (λ same. w.if-deref-slot.false (ap (λ (e : Entry). e.slot) w.deref-in-loop-first.ensures ∙ same ∙ sym c.slot_of-slot.ensures))
      | else-loop-first-test w ↦ ap (λ n. find text_cmp q (pairs (take n es))) {y = 0} (omega arith)
    ]

-- the entry of the iteration is at its index
pub returns-then-eq : goal.returns-then-eq
returns-then-eq c =
    let q = c.args.key.now in
    let at = c.loop-first.first + c.loop-older.older-index in
    let e = c.older-item.result in
    let place = range_at c.deref-2.result.now c.loop-first.first _ c.loop-older.older-index e c.loop-older-test.true c.older-item.is in
    let within = subst (λ (es : List (Rc Entry Global)). at < length es) c.deref-2.ensures.value place.0 in
    let is = subst (λ (es : List (Rc Entry Global)). e ≡ get_or es at e) c.deref-2.ensures.value place.1 in
    let named : bytes_eq q e.value.key ≡ true = cc in
    sym (get_seen c.args.self.now.items.items q
    ∙ find_at q c.args.self.now.items.items at e c.requires.rising c.requires.in_slots within is named
    ∙ ap (λ (e : Entry). Some (tree e.value)) (sym c.as_ref.ensures))

pub loop-older-preserved : goal.loop-older-preserved
loop-older-preserved c =
    let q = c.args.key.now in
    let at = c.loop-first.first + c.loop-older.older-index in
    let e = c.older-item.result in
    let place = range_at c.deref-2.result.now c.loop-first.first _ c.loop-older.older-index e c.loop-older-test.true c.older-item.is in
    let within = subst (λ (es : List (Rc Entry Global)). at < length es) c.deref-2.ensures.value place.0 in
    let is = subst (λ (es : List (Rc Entry Global)). e ≡ get_or es at e) c.deref-2.ensures.value place.1 in
    let other : bytes_eq q e.value.key ≡ false = cc in
    ap (λ n. find text_cmp q (pairs (take n c.args.self.now.items.items))) {y = at + 1} (omega arith)
    ∙ find_step q c.args.self.now.items.items at e within is other
    ∙ c.loop-older.invariant

pub returns : goal.returns
returns c =
    let q = c.args.key.now in
    let lasts = c.args.self.now.lasts in
    let es = c.args.self.now.items.items in
    let full = subst (λ s. slice_index lasts s < 255) (sym c.slot_of-slot.ensures) c.requires.has_last in
    let last : c.from-end.result ≡ slice_index lasts c.slot_of-slot.result = search rules in
    let older = find_older q lasts es c.slot_of-slot.result c.from-end.result c.slot_of-slot.ensures last (omega (arith, full, last)) c.requires.in_slots c.requires.lasts c.requires.is_older in
    let end = range_end c.deref-2.result.now c.loop-first.first c.from-end.result c.loop-older.older-index c.loop-first.invariant.0
    (subst (λ (es : List (Rc Entry Global)). c.from-end.result ≤ length es) (sym c.deref-2.ensures.value) (omega (arith, older.0))) c.loop-older.auto.older-index-end c.loop-older-test.false in
    sym (get_seen es q ∙ older.2 ∙ ap (λ n. find text_cmp q (pairs (take n es))) (sym end) ∙ c.loop-older.invariant)
