use Rattle.std.proofs.Common.{◌∙◌, ap, length, below_more, take_all, arith, List}
use Rattle.otel_waterfall.specs.Rows.{children_in, progress}
use Rattle.otel_waterfall.specs.declared.rows.Node.{Node}
use Rattle.otel_waterfall.specs.declared.rows.Parent.{Parent}
use Rattle.otel_waterfall.proofs.Draws.{draws_first, draws_more}
use Rattle.otel_waterfall.proofs.Forests.{left_more, no_rows, rows_are, tops, tops_more}
use Rattle.otel_waterfall.proofs.rows.rows_of.Goals as goal

pub loop-node-init : goal.loop-node-init
loop-node-init c = record {
  draws = draws_first _ _ _ c.in_ok-spans_of.ensures c.new.ensures.items;
  progress = no_rows c.args.trace c.args.batch.now _ _ c.in_ok-spans_of.ensures c.new.ensures.items;
}

pub loop-node-preserved : goal.loop-node-preserved
loop-node-preserved c =
    let drawn = c.in_ok-draw_top.ensures in
    let sofar = c.loop-node.invariant in
    record {
      draws = draws_more _ _ _ _ _ _ sofar.draws drawn.draws;
      progress = tops_more c.args.trace c.args.batch.now c.in_ok-children.children.items _ c.deref-node-items.result.now c.loop-node.node-index _ (progress c.loop-node.drawing) (progress c.draw_top.new.drawing)
          c.loop-node-test.true c.as_slice-in-loop-node.ensures.value drawn.progress sofar.progress;
    }

pub loop-place-init : goal.loop-place-init
loop-place-init c =
    let sofar = c.loop-node.invariant in
    record {
      draws = sofar.draws;
      drawn = λ k h. absurd (omega (arith, h));
      progress =
          sofar.progress
          ∙ ap (tops c.args.trace c.args.batch.now c.in_ok-children.children.items)
          (take_all c.loop-node.node-index c.deref-node-items.result.now c.loop-node-test.false ∙ c.deref-node-items.ensures.value);
    }

pub loop-place-preserved : goal.loop-place-preserved
loop-place-preserved c =
    let drawn = c.in_ok-draw_left.ensures in
    let sofar = c.loop-place.invariant in
    record {
      draws = draws_more _ _ _ _ _ _ sofar.draws drawn.draws;
      drawn = below_more _ _ (λ k h. drawn.draws.none_anew k (sofar.drawn k h)) drawn.drawn;
      progress = left_more c.args.trace c.args.batch.now c.in_ok-children.children.items _ c.in_ok-nodes.nodes.items c.loop-place.place (progress c.loop-place.drawing) (progress c.draw_left.new.drawing)
          c.as_slice-in-loop-place.ensures.value drawn.progress sofar.progress;
    }

pub returns-clause-rows : goal.returns-clause-rows
returns-clause-rows c =
    let nodes = c.as_slice.ensures.value in
    rows_are c.args.trace c.args.batch.now c.in_ok-children.children.items c.in_ok-nodes.nodes.items c.loop-place.place (progress c.loop-place.drawing)
    (omega (arith, c.loop-place-test.false)) c.in_ok-nodes.ensures
    (c.in_ok-children.ensures.len ∙ ap (λ (xs : List Node). length xs) nodes)
    (λ (above : Parent). c.in_ok-children.ensures.same above ∙ ap (λ (xs : List Node). children_in xs above) nodes)
    c.loop-place.invariant.progress
