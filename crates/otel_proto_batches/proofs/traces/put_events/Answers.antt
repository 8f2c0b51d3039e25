use Rattle.std.proofs.Common.{[], ◌∷◌, List, map, append-nil, sym, ap, ◌∙◌}
use Rattle.opentelemetry.specs.View.{event_of}
use Rattle.opentelemetry.specs.declared.trace.event.Event.{Event}
use Rattle.otel_proto.specs.Output.{put}
use Rattle.otel_proto.specs.Written.{messages}
use Rattle.otel_proto.proofs.shared.Outputs.{put_none, put_more, one_less, all_done}
use Rattle.otel_proto_batches.specs.Traces.{event}
use Rattle.otel_proto_batches.proofs.traces.put_events.Goals as goal

pub loop-item-init : goal.loop-item-init
loop-item-init c = record {
  done = [];
  whole = append-nil c.into_iter-item-iterator.result.iter.rest.now ∙ rw (c.into_iter-item-iterator.ensures.into_iter_gives, c.rev-item-items.ensures.source) c.iter.ensures.rest;
  put = sym (put_none c.args.out.now);
}

pub loop-item-preserved : goal.loop-item-preserved
loop-item-preserved c =
    let so_far = c.loop-item.invariant in
    let x = c.in-Some.item.now in
    record {
      done = x ∷ so_far.done;
      whole = one_less _ _ _ so_far.done x c.in-Some.ensures.steps so_far.whole;
      put = put_more 11 c.count-end.result event (event_of x) (map event_of so_far.done) c.args.out.now c.loop-item.out c.event.new.out c.put_head.new.out c.count-end.ensures so_far.put c.in_ok-event.ensures c.in_ok-put_head.ensures;
    }

pub returns : goal.returns
returns c =
    let so_far = c.loop-item.invariant in
    so_far.put ∙ ap (λ (xs : List Event). put (messages 11 event (map event_of xs)) c.args.out.now) (all_done _ so_far.done _ c.in-None.ensures.steps.0 so_far.whole)
