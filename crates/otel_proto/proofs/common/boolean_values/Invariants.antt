use Rattle.std.proofs.Common.{◌≡◌, ◌++◌, List, Bool}
use Rattle.otel_proto.specs.Common.{boolean_value}
use Rattle.otel_proto.specs.Output.{put}
use Rattle.otel_proto.specs.Written.{messages}
use Rattle.otel_proto.proofs.common.boolean_values.Given as goal

abbrev pub invariant-loop-item : goal.invariant-loop-item
invariant-loop-item l = record {
  done : List (Bool);
  whole : l.item-iterator.iter.rest.now ++ done ≡ l.items;
  put : l.out ≡ put (messages 1 boolean_value done) l.initial.out;
}
