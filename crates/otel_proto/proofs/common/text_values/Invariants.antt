use Rattle.std.proofs.Common.{◌≡◌, ◌++◌, List, ℕ}
use Rattle.otel_proto.specs.Common.{text_value}
use Rattle.otel_proto.specs.Output.{put}
use Rattle.otel_proto.specs.Written.{messages}
use Rattle.otel_proto.proofs.common.text_values.Given as goal

abbrev pub invariant-loop-item : goal.invariant-loop-item
invariant-loop-item l = record {
  done : List (List ℕ);
  whole : l.item-iterator.iter.rest.now ++ done ≡ l.items;
  put : l.out ≡ put (messages 1 text_value done) l.initial.out;
}
