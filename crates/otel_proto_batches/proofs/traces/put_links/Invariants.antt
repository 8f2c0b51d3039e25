use Rattle.std.proofs.Common.{◌≡◌, ◌++◌, List, map}
use Rattle.opentelemetry.specs.View.{link_of}
use Rattle.opentelemetry.specs.declared.trace.link.Link.{Link}
use Rattle.otel_proto.specs.Output.{put}
use Rattle.otel_proto.specs.Written.{messages}
use Rattle.otel_proto_batches.specs.Traces.{link}
use Rattle.otel_proto_batches.proofs.traces.put_links.Given as goal

abbrev pub invariant-loop-item : goal.invariant-loop-item
invariant-loop-item l = record {
  done : List Link;
  whole : l.item-iterator.iter.rest.now ++ done ≡ l.items;
  put : l.out ≡ put (messages 13 link (map link_of done)) l.initial.out;
}
