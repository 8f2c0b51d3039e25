use Rattle.std.proofs.Common.{◌+◌, ◌-◌, length, sym, ◌∙◌, arith}
use Rattle.otel_waterfall.specs.Rows.{children_in, progress, undrawn}
use Rattle.otel_waterfall.specs.declared.rows.Parent.TheVariants.{At}
use Rattle.otel_waterfall.proofs.Draws.{draws_more, stays_drawn}
use Rattle.otel_waterfall.proofs.Trees.{depths_more, depths_popped, depths_pushed, no_depths, tree_ends, tree_is_full, tree_more, tree_start}
use Rattle.otel_waterfall.proofs.rows.draw_tree.Goals as goal
use Rattle.otel_waterfall.proofs.rows.draw_tree.Goals.{else-loop-row-test, then-loop-row-test+in_default}

pub loop-row-init : goal.loop-row-init
loop-row-init c =
    let count = length c.args.children.now in
    let kids = children_in c.args.children.now in
    record {
      draws = c.in_ok-draw.ensures.draws;
      drawn = c.in_ok-draw.ensures.drawn;
      depths = depths_pushed 1 1 (undrawn (progress c.draw.new.self) (kids c.args.parent)) c.new-waiting.result.items _ (omega arith) c.in_ok-push_children.ensures (no_depths 1 _ c.new-waiting.ensures.items);
      progress = tree_start count kids c.args.top c.args.parent _ _ c.new-waiting.result.items _ c.in_ok-draw.ensures.progress c.new-waiting.ensures.items c.in_ok-push_children.ensures;
    }

pub loop-row-preserved : goal.loop-row-preserved
loop-row-preserved c =
    let count = length c.args.children.now in
    let kids = children_in c.args.children.now in
    let i = c.loop-row._row in
    let sofar = c.loop-row.invariant in
    let w = c.in-Some.next in
    let rest = c.pop.new.self.items in
    let drawn = c.in_ok-draw-2.ensures in
    let popped = depths_popped (i + 1) w rest c.loop-row.waiting.items c.in-Some.ensures.items sofar.depths in
    record {
      draws = draws_more _ _ _ _ _ _ sofar.draws drawn.draws;
      drawn = stays_drawn c.args.top c.loop-row.drawing c.draw-in-loop-row.new.self drawn.draws sofar.drawn;
      depths = depths_pushed (i + 1 + 1) (w.depth + 1) (undrawn (progress c.draw-in-loop-row.new.self) (kids (At w.place))) rest _ (omega (arith, popped.1)) c.in_ok-push_children-2.ensures (depths_more (i + 1) rest popped.0);
      progress = tree_more count kids i _ _ w rest c.loop-row.waiting.items _ c.loop-row-test.true c.in-Some.ensures.items drawn.progress c.in_ok-push_children-2.ensures ∙ sofar.progress;
    }

pub returns-clause-progress : goal.returns-clause-progress
returns-clause-progress c =
    let count = length c.args.children.now in
    let kids = children_in c.args.children.now in
    let i = c.loop-row._row in
    let sofar = c.loop-row.invariant in
    let drawing = progress c.loop-row.drawing in
    elim c.loop-row-test.branch [
      | else-loop-row-test w ↦ sym (tree_is_full count kids i c.loop-row.waiting.items drawing w.loop-row-test.false) ∙ sofar.progress
      | then-loop-row-test+in_default w ↦ sym (tree_ends count kids (count - i) c.loop-row.waiting.items drawing (omega (arith, w.in_default.ensures.cases.0))) ∙ sofar.progress
    ]

pub overflow_add-next : goal.overflow_add-next
overflow_add-next c =
    let popped = depths_popped (c.loop-row._row + 1) c.in-Some.next c.pop.new.self.items c.loop-row.waiting.items c.in-Some.ensures.items c.loop-row.invariant.depths in
    omega (arith, popped.1)
