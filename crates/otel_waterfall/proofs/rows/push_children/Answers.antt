use Rattle.std.proofs.Common.{[], ◌∷◌, ◌++◌, List, ap, ◌∙◌, sym, refl, reverse}
use Rattle.std.specs.Prelude.{nat_lt, length}
use Rattle.std.proofs.lemmas.List.{append-nil}
use Rattle.otel_waterfall.specs.Rows.{progress, siblings, undrawn}
use Rattle.otel_waterfall.specs.declared.rows.Node.{Node}
use Rattle.otel_waterfall.proofs.Siblings.{all_done, one_follows, undrawn_same, waits_more, whole_more}
use Rattle.otel_waterfall.proofs.rows.push_children.Goals as goal

pub loop-node-init : goal.loop-node-init
loop-node-init c = record {
  done = [];
  whole = append-nil c.into_iter-node-iterator.result.iter.rest.now ∙ rw (c.into_iter-node-iterator.ensures.into_iter_gives, c.rev-node-items.ensures.source) (c.iter.ensures.rest ∙ c.children_under-siblings.ensures);
  waiting = sym (append-nil c.args.waiting.now.items);
  follows = refl;
}

pub loop-node-preserved : goal.loop-node-preserved
loop-node-preserved c =
    let sofar = c.loop-node.invariant in
    let x = c.in-Some.node.now in
    let drawing = progress c.args.drawing.now in
    let same = undrawn_same drawing x sofar.done (sym c.if-is_pending.ensures) in
    record {
      done = x ∷ sofar.done;
      whole = whole_more _ _ _ sofar.done x c.in-Some.ensures.steps sofar.whole;
      waiting = sofar.waiting ∙ ap (λ (xs : List Node). c.args.waiting.now.items ++ reverse (siblings c.args.depth xs)) (sym same);
      follows = sofar.follows ∙ ap (λ (xs : List Node). nat_lt 0 (length xs)) (sym same);
    }

pub loop-node-preserved-then-is_pending : goal.loop-node-preserved-then-is_pending
loop-node-preserved-then-is_pending c =
    let sofar = c.loop-node.invariant in
    let x = c.in-Some.node.now in
    let drawing = progress c.args.drawing.now in
    let pending = sym c.is_pending.ensures ∙ c.if-is_pending.true in
    record {
      done = x ∷ sofar.done;
      whole = whole_more _ _ _ sofar.done x c.in-Some.ensures.steps sofar.whole;
      waiting = waits_more c.args.depth drawing x sofar.done c.args.waiting.now.items c.loop-node.waiting.items _ c.loop-node.follows pending sofar.waiting sofar.follows c.in_ok-push.ensures.items;
      follows = one_follows drawing x sofar.done pending;
    }

pub returns : goal.returns
returns c =
    let sofar = c.loop-node.invariant in
    sofar.waiting ∙ ap (λ (xs : List Node). c.args.waiting.now.items ++ reverse (siblings c.args.depth (undrawn (progress c.args.drawing.now) xs)))
    (all_done _ sofar.done _ c.in-None.ensures.steps.0 sofar.whole)
