use Rattle.std.proofs.Common.{◌≡◌, map, rules}
use Rattle.otel_base.specs.View.{attribute_of}
use Rattle.otel_proto.specs.Common.{attributes}
use Rattle.otel_proto.proofs.shared.Outputs.{puts_message, same_put}
use Rattle.otel_proto_batches.specs.Common.{resource}
use Rattle.otel_proto_batches.proofs.common.put_resource.Goals as goal

pub returns : goal.returns
returns c =
    let r = c.args.resource.now in
    let given : map attribute_of c.as_slice.result.now ≡ r.attributes = search rules in
    puts_message c.put_head.result 1 c.count-end.result (resource r) c.args.out.now c.put_head.new.out c.count-end.ensures
    (same_put (attributes 1) c.args.out.now given c.in_ok-put_attributes.ensures) c.put_head.ensures
