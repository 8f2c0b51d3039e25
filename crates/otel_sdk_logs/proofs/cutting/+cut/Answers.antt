use Rattle.std.proofs.Common.{◌≡◌, [], ◌∷◌, ◌++◌, map, nat_cmp, sym, ap, ◌∙◌, subst, append_assoc, arith}
use Rattle.std.proofs.lemmas.List.{take_all}
use Rattle.std.specs.Cmp.Lexicographic.{slice_cmp}
use Rattle.std.specs.List.Sorted.{IsStrictlySortedBy}
use Rattle.std.specs.Map.{keys_of}
use Rattle.otel_base.specs.AnyValue as any
use Rattle.otel_base.specs.View.{tree, trees_of, entries_view}
use Rattle.otel_base.proofs.shared.Views.{Entry, entries_view-insert_entry, put_last, tree-Map}
use Rattle.otel_sdk_logs.specs.Cuts as spec
use Rattle.otel_sdk_logs.proofs.Cuts.{cut_of, cut_trees-view, put-cut}
use Rattle.otel_sdk_logs.proofs.cutting.+cut.Goals as goal

pub cut_items-returns : goal.cut_items-returns
cut_items-returns t c =
    let l = c.loop-item in
    let n = c.args.length in
    let xs = c.deref-item-items.result.now in
    ap trees_of (l.invariant
    ∙ ap (map (cut_of n)) (take_all l.item-index xs (omega (arith, c.loop-item-test.false)) ∙ c.deref-item-items.ensures.value))
    ∙ sym (cut_trees-view n c.args.items.now.items)

pub cut_entries-loop-key-preserved : goal.cut_entries-loop-key-preserved
cut_entries-loop-key-preserved t c =
    let l = c.loop-key in
    let n = c.args.length in
    let done = l.invariant.0 in
    let e : Entry = (c.in-Some.key.now, c.in-Some.value.now) in
    let left = c.next.new.self in
    let all : c.args.entries.now.entries ≡ done ++ e ∷ left =
    l.invariant.1 ∙ ap (λ es. done ++ es) c.in-Some.ensures.steps in
    let last = put_last done e left
    (subst (λ es. IsStrictlySortedBy (slice_cmp nat_cmp)
    (keys_of es)) all c.iter-key-items.ensures.ordered) in
    let named : c.in_ok-name.name ≡ e.0 = c.in_ok-name.ensures.cases in (
      done ++ e ∷ [],
      all ∙ sym (append_assoc done (e ∷ []) left),
      ap entries_view c.in_ok-insert.ensures.entries
          ∙ entries_view-insert_entry l.copies.entries c.in_ok-name.name c.in_ok-cut_tree.field-0
          ∙ rw (named, c.in_ok-cut_tree.ensures, l.invariant.2) (put-cut n e.0 (tree e.1) (entries_view done))
          ∙ ap (spec.cut_entries n) last,
    )

pub cut_tree-returns-in_ok-new-in-Map : goal.cut_tree-returns-in_ok-new-in-Map
cut_tree-returns-in_ok-new-in-Map t c =
    let n = c.args.length in
    tree-Map c.in_ok-new-in-Map.field-0
    ∙ ap any.map (ap (λ m. entries_view m.entries) c.in_ok-new-in-Map.ensures.ok
    ∙ c.in_ok-copies-in-Map.ensures
    ∙ ap (λ m. spec.cut_entries n (entries_view m.entries)) c.deref-in-Map.ensures)
    ∙ ap (spec.cut_tree n) (sym (tree-Map c.in-Map.entries) ∙ ap tree (sym c.in-Map.is))
