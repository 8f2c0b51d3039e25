use Rattle.std.proofs.Common.{◌-◌, sym, ap, ◌∙◌, if◌then◌else◌, arith}
use Rattle.std.proofs.lemmas.Bool.{ne_eqb}
use Rattle.std.proofs.lemmas.List.{drop_all}
use Rattle.otel_base.specs.View.{trees_view, entries_view}
use Rattle.otel_sdk_base.specs.Attributes.{up_by}
use Rattle.otel_proto_batches.specs.Cuts.{cut_parts_of_trees, cut_parts_of_entries}
use Rattle.otel_proto_batches.proofs.CutParts.{up_by_zero}
use Rattle.otel_proto_batches.proofs.cuts.+parts.Goals as goal

pub add_cut_entries-returns : goal.add_cut_entries-returns
add_cut_entries-returns t c =
    let l = c.loop-item in
    let n = c.args.levels - 1 in
    sym (up_by_zero l.counted l.invariant.0)
    ∙ ap (λ es. up_by l.counted (cut_parts_of_entries n (entries_view es))) (sym c.in-None.ensures.steps.0)
    ∙ l.invariant.1
    ∙ ap (λ b. up_by c.args.count (if b then 1 else cut_parts_of_entries n (entries_view c.args.entries.now.entries))) (sym (ne_eqb c.args.levels 0 c.if-levels-eq0.false))

pub add_cut_items-returns : goal.add_cut_items-returns
add_cut_items-returns t c =
    let l = c.loop-item in
    let n = c.args.levels - 1 in
    let xs = c.deref-item-items.result.now in
    sym (up_by_zero l.counted l.invariant.0)
    ∙ ap (λ vs. up_by l.counted (cut_parts_of_trees n (trees_view vs))) (sym (drop_all l.item-index xs (omega (arith, c.loop-item-test.false))))
    ∙ l.invariant.1
    ∙ ap (λ vs. up_by c.args.count (cut_parts_of_trees n (trees_view vs))) c.deref-item-items.ensures.value
    ∙ ap (λ b. up_by c.args.count (if b then 1 else cut_parts_of_trees n (trees_view c.args.items.now.items))) (sym (ne_eqb c.args.levels 0 c.if-levels-eq0.false))
