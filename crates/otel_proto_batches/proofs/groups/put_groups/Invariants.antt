use Rattle.std.proofs.Common.{◌≡◌, ◌++◌, List}
use Rattle.otel_proto.specs.Output.{put}
use Rattle.otel_proto.specs.Written.{messages}
use Rattle.otel_proto_batches.specs.GroupView.{group_fields}
use Rattle.otel_proto_batches.specs.declared.groups.Group.{Group}
use Rattle.otel_proto_batches.proofs.groups.put_groups.Given as goal

abbrev pub invariant-loop-group : goal.invariant-loop-group
invariant-loop-group g l = record {
  done : List (Group g.row.R.Denot);
  whole : l.group-iterator.iter.rest.now ++ done ≡ l.groups;
  put : l.out ≡ put (messages 2 (group_fields g.R.Grouped.form.fields_of) done) l.initial.out;
}
