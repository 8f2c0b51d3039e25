use Rattle.std.proofs.Common.{map, arith, sym, ◌∙◌}
use Rattle.otel_base.specs.View.{attribute_of}
use Rattle.otel_base.proofs.Walk.{walk_more, walk_done, first_false, first_true}
use Rattle.otel_base.proofs.scope.same_in_order.Goals as goal

pub returns-then-ne : goal.returns-then-ne
returns-then-ne c =
    let more = walk_more (map attribute_of c.args.left.now)
    (map attribute_of c.args.right.now) c.args.left_positions.now c.args.right_positions.now
    c.loop-place.place c.attribute_at.result c.attribute_at-in-loop-place.result
    c.loop-place-test.true
    (omega arith) c.attribute_at.ensures c.attribute_at-in-loop-place.ensures in
    first_false _ _ _ (c.loop-place.invariant ∙ more) (sym c.if-ne.true ∙ c.ne.ensures)

pub loop-place-preserved : goal.loop-place-preserved
loop-place-preserved c =
    let more = walk_more (map attribute_of c.args.left.now)
    (map attribute_of c.args.right.now) c.args.left_positions.now c.args.right_positions.now
    c.loop-place.place c.attribute_at.result c.attribute_at-in-loop-place.result
    c.loop-place-test.true
    (omega arith) c.attribute_at.ensures c.attribute_at-in-loop-place.ensures in
    first_true _ _ _ (c.loop-place.invariant ∙ more) (sym c.if-ne.false ∙ c.ne.ensures)

pub returns : goal.returns
returns c =
    sym (c.loop-place.invariant
    ∙ walk_done (map attribute_of c.args.left.now)
    (map attribute_of c.args.right.now) c.args.left_positions.now c.args.right_positions.now
    c.loop-place.place (omega arith) (omega arith))
