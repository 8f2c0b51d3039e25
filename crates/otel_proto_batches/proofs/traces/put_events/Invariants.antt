use Rattle.std.proofs.Common.{◌≡◌, ◌++◌, List, map}
use Rattle.opentelemetry.specs.View.{event_of}
use Rattle.opentelemetry.specs.declared.trace.event.Event.{Event}
use Rattle.otel_proto.specs.Output.{put}
use Rattle.otel_proto.specs.Written.{messages}
use Rattle.otel_proto_batches.specs.Traces.{event}
use Rattle.otel_proto_batches.proofs.traces.put_events.Given as goal

abbrev pub invariant-loop-item : goal.invariant-loop-item
invariant-loop-item l = record {
  done : List Event;
  whole : l.item-iterator.iter.rest.now ++ done ≡ l.items;
  put : l.out ≡ put (messages 11 event (map event_of done)) l.initial.out;
}
