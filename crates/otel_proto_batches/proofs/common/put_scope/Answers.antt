use Rattle.std.proofs.Common.{◌++◌, map}
use Rattle.otel_base.specs.View.{attribute_of}
use Rattle.otel_proto.specs.Common.{attributes}
use Rattle.otel_proto.specs.Written.{bytes_unless_empty}
use Rattle.otel_proto.proofs.shared.Outputs.{put_then, puts_message, same_put}
use Rattle.otel_proto_batches.specs.Common.{text_if_given}
use Rattle.otel_proto_batches.proofs.common.put_scope.Goals as goal

pub returns : goal.returns
returns c =
    let o = c.args.out.now in
    let s = c.args.scope.now in
    let given = attributes 3 (map attribute_of c.args.attributes.now) in
    let version = text_if_given 2 s.version in
    let name = bytes_unless_empty 1 s.name in
    puts_message c.put_head.result 1 c.count-end.result (name ++ (version ++ given)) o c.put_head.new.out c.count-end.ensures
    (put_then name (version ++ given) o
    (put_then version given o c.in_ok-put_attributes.ensures
    (same_put (text_if_given 2) c.put_attributes.new.out c.version.ensures c.in_ok-put_text_if_given.ensures))
    (same_put (bytes_unless_empty 1) c.put_text_if_given.new.out c.name.ensures c.in_ok-put_text_unless_empty.ensures))
    c.put_head.ensures
