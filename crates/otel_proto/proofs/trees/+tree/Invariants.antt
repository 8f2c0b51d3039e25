use Rattle.std.proofs.Common.{◌≡◌, List, ◌++◌}
use Rattle.otel_base.specs.declared.any_value.AnyValue.{AnyValue}
use Rattle.otel_proto.specs.Output.{put}
use Rattle.otel_proto.specs.Written.{messages}
use Rattle.otel_proto.proofs.TreeFields.{Entry, value_fields, entry_fields}
use Rattle.otel_proto.proofs.trees.+tree.Given as goal

abbrev pub invariant-list_values-loop-item : goal.invariant-list_values-loop-item
invariant-list_values-loop-item l = record {
  done : List AnyValue;
  whole : l.item-iterator.iter.rest.now ++ done ≡ l.items.items;
  put : l.out ≡ put (messages 1 (value_fields l.levels) done) l.initial.out;
}

abbrev pub invariant-map_values-loop-key : goal.invariant-map_values-loop-key
invariant-map_values-loop-key l = record {
  done : List Entry;
  whole : l.key-iterator.iter ++ done ≡ l.entries.entries;
  put : l.out ≡ put (messages 1 (entry_fields l.levels) done) l.initial.out;
}
