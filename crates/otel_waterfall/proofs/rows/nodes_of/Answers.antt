use Rattle.std.proofs.Common.{ℕ, ◌∙◌, map, take_all, ap, List}
use Rattle.otel_waterfall.specs.Drawn.{look}
use Rattle.std.specs.BTreeMap.{get}
use Rattle.std.specs.Ordering.{nat_cmp}
use Rattle.otel_waterfall.specs.Rows.{node_of}
use Rattle.otel_waterfall.proofs.Nodes.{nodes_more}
use Rattle.otel_waterfall.proofs.rows.nodes_of.Goals as goal

pub loop-place-preserved : goal.loop-place-preserved
loop-place-preserved c =
    nodes_more c.args.trace c.args.batch.now (get nat_cmp c.in_ok-starts.field-0.places) c.deref-place-items.result.now c.loop-place.place-index _ c.parent_at.result c.loop-place.nodes.items c.push.new.self.items
    c.loop-place-test.true c.in_ok-starts.ensures.places c.loop-place.invariant c.parent_at.ensures c.in_ok-push.ensures.items

pub returns : goal.returns
returns c =
    let node = node_of c.args.trace (map look c.args.batch.now) in
    c.loop-place.invariant ∙ ap (λ (xs : List (ℕ × ℕ)). map node xs) (take_all c.loop-place.place-index c.deref-place-items.result.now c.loop-place-test.false)
    ∙ ap (map node) (c.deref-place-items.ensures.value ∙ c.in_ok-starts.ensures.starts)
