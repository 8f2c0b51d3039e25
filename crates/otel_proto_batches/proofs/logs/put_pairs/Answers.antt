use Rattle.std.proofs.Common.{[], ◌∷◌, List, ℕ, append-nil, sym, ap, ◌∙◌}
use Rattle.otel_base.specs.View.{tree, pairs_view}
use Rattle.otel_base.specs.declared.any_value.AnyValue.{AnyValue}
use Rattle.otel_proto.specs.Output.{put}
use Rattle.otel_proto.specs.Written.{messages}
use Rattle.otel_proto.proofs.shared.Outputs.{put_none, put_more, one_less, all_done}
use Rattle.otel_proto_batches.specs.Logs.{attribute}
use Rattle.otel_proto_batches.proofs.logs.put_pairs.Goals as goal

pub loop-attribute-init : goal.loop-attribute-init
loop-attribute-init c = record {
  done = [];
  whole = append-nil c.into_iter-attribute-iterator.result.iter.rest.now ∙ rw (c.into_iter-attribute-iterator.ensures.into_iter_gives, c.rev-attribute-items.ensures.source) c.iter.ensures.rest;
  put = sym (put_none c.args.out.now);
}

pub loop-attribute-preserved : goal.loop-attribute-preserved
loop-attribute-preserved c =
    let so_far = c.loop-attribute.invariant in
    let x = c.in-Some.attribute.now in
    record {
      done = x ∷ so_far.done;
      whole = one_less _ _ _ so_far.done x c.in-Some.ensures.steps so_far.whole;
      put = put_more 6 c.count-end.result attribute (x.0, tree x.1) (pairs_view so_far.done) c.args.out.now c.loop-attribute.out c.put_entry.new.out c.put_head.new.out c.count-end.ensures so_far.put c.in_ok-put_entry.ensures c.in_ok-put_head.ensures;
    }

pub returns : goal.returns
returns c =
    let so_far = c.loop-attribute.invariant in
    so_far.put ∙ ap (λ (xs : List (List ℕ × AnyValue)). put (messages 6 attribute (pairs_view xs)) c.args.out.now) (all_done _ so_far.done _ c.in-None.ensures.steps.0 so_far.whole)
