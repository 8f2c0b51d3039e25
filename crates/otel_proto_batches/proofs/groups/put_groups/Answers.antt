use Rattle.std.proofs.Common.{[], ◌∷◌, append-nil, sym, ap, ◌∙◌}
use Rattle.otel_proto.specs.Output.{put}
use Rattle.otel_proto.specs.Written.{messages}
use Rattle.otel_proto.proofs.shared.Outputs.{put_none, put_more, one_less, all_done}
use Rattle.otel_proto_batches.specs.GroupView.{group_fields}
use Rattle.otel_proto_batches.proofs.groups.put_groups.Goals as goal

pub loop-group-init : goal.loop-group-init
loop-group-init g c = record {
  done = [];
  whole = append-nil c.into_iter-group-iterator.result.iter.rest.now ∙ rw (c.into_iter-group-iterator.ensures.into_iter_gives, c.rev-group-items.ensures.source) c.iter.ensures.rest;
  put = sym (put_none c.args.out.now);
}

pub loop-group-preserved : goal.loop-group-preserved
loop-group-preserved g c =
    let so_far = c.loop-group.invariant in
    let x = c.in-Some.group.now in
    record {
      done = x ∷ so_far.done;
      whole = one_less _ _ _ so_far.done x c.in-Some.ensures.steps so_far.whole;
      put = put_more 2 c.count-end.result (group_fields g.R.Grouped.form.fields_of) x so_far.done c.args.out.now c.loop-group.out c.put_group.new.out c.put_head.new.out c.count-end.ensures so_far.put c.in_ok-put_group.ensures c.in_ok-put_head.ensures;
    }

pub returns : goal.returns
returns g c =
    let so_far = c.loop-group.invariant in
    so_far.put ∙ ap (λ xs. put (messages 2 (group_fields g.R.Grouped.form.fields_of) xs) c.args.out.now) (all_done _ so_far.done _ c.in-None.ensures.steps.0 so_far.whole)
