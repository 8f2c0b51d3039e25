use Rattle.std.proofs.Common.{[], ◌∷◌, List, map, append-nil, sym, ap, ◌∙◌}
use Rattle.otel_base.specs.View.{attribute_of}
use Rattle.otel_base.specs.declared.key_value.KeyValue.{KeyValue}
use Rattle.otel_proto.specs.Common.{key_value, attributes}
use Rattle.otel_proto.specs.Output.{put}
use Rattle.otel_proto.proofs.shared.Outputs.{put_none, put_more, one_less, all_done}
use Rattle.otel_proto.proofs.common.put_attributes.Goals as goal

pub loop-attribute-init : goal.loop-attribute-init
loop-attribute-init c = record {
  done = [];
  whole = append-nil c.into_iter-attribute-iterator.result.iter.rest.now ∙ rw (c.into_iter-attribute-iterator.ensures.into_iter_gives, c.rev-attribute-items.ensures.source) c.iter.ensures.rest;
  put = sym (put_none c.args.out.now);
}

pub loop-attribute-preserved : goal.loop-attribute-preserved
loop-attribute-preserved c =
    let so_far = c.loop-attribute.invariant in
    let x = c.in-Some.attribute.now in
    record {
      done = x ∷ so_far.done;
      whole = one_less _ _ _ so_far.done x c.in-Some.ensures.steps so_far.whole;
      put = put_more c.args.number c.count-end.result key_value (attribute_of x) (map attribute_of so_far.done) c.args.out.now c.loop-attribute.out c.key_value.new.out c.put_head.new.out c.count-end.ensures so_far.put c.in_ok-key_value.ensures c.in_ok-put_head.ensures;
    }

pub returns : goal.returns
returns c =
    let so_far = c.loop-attribute.invariant in
    so_far.put ∙ ap (λ (xs : List KeyValue). put (attributes c.args.number (map attribute_of xs)) c.args.out.now) (all_done _ so_far.done _ c.in-None.ensures.steps.0 so_far.whole)
