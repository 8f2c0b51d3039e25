use Rattle.std.proofs.Common.{◌≡◌, ◌++◌, List, ℕ}
use Rattle.otel_base.specs.View.{pairs_view}
use Rattle.otel_base.specs.declared.any_value.AnyValue.{AnyValue}
use Rattle.otel_proto.specs.Output.{put}
use Rattle.otel_proto.specs.Written.{messages}
use Rattle.otel_proto_batches.specs.Logs.{attribute}
use Rattle.otel_proto_batches.proofs.logs.put_pairs.Given as goal

abbrev pub invariant-loop-attribute : goal.invariant-loop-attribute
invariant-loop-attribute l = record {
  done : List (List ℕ × AnyValue);
  whole : l.attribute-iterator.iter.rest.now ++ done ≡ l.attributes;
  put : l.out ≡ put (messages 6 attribute (pairs_view done)) l.initial.out;
}
