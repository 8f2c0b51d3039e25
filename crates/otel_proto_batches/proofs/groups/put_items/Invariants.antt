use Rattle.std.proofs.Common.{◌≡◌, ◌++◌, List, Bor}
use Rattle.otel_proto.specs.Output.{put}
use Rattle.otel_proto.specs.Written.{messages}
use Rattle.otel_proto_batches.proofs.groups.put_items.Given as goal

abbrev pub invariant-loop-item : goal.invariant-loop-item
invariant-loop-item g l = record {
  done : List (Bor g.row.R.Denot);
  whole : l.item-iterator.iter.rest.now ++ done ≡ l.items;
  put : l.out ≡ put (messages 2 (λ r. g.R.Grouped.form.fields_of r.now) done) l.initial.out;
}
