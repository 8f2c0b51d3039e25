use Rattle.std.proofs.Common.{◌≡◌, ◌++◌, List, map}
use Rattle.otel_base.specs.View.{attribute_of}
use Rattle.otel_base.specs.declared.key_value.KeyValue.{KeyValue}
use Rattle.otel_proto.specs.Common.{attributes}
use Rattle.otel_proto.specs.Output.{put}
use Rattle.otel_proto.proofs.common.put_attributes.Given as goal

abbrev pub invariant-loop-attribute : goal.invariant-loop-attribute
invariant-loop-attribute l = record {
  done : List KeyValue;
  whole : l.attribute-iterator.iter.rest.now ++ done ≡ l.attributes;
  put : l.out ≡ put (attributes l.number (map attribute_of done)) l.initial.out;
}
