use Rattle.std.proofs.Common.{◌++◌, map}
use Rattle.otel_base.specs.View.{attribute_of}
use Rattle.opentelemetry.specs.View.{event_of}
use Rattle.otel_proto.specs.Common.{attributes}
use Rattle.otel_proto.specs.Written.{bytes_unless_empty, number_unless_zero, fixed64_unless_zero}
use Rattle.otel_proto.proofs.shared.Outputs.{put_then, puts_then, same_put}
use Rattle.otel_proto_batches.proofs.traces.event.Goals as goal

pub returns : goal.returns
returns c =
    let o = c.args.out.now in
    let e = event_of c.args.event.now in
    let dropped = number_unless_zero 4 e.dropped_attributes_count in
    let given = attributes 3 e.attributes in
    let name = bytes_unless_empty 2 e.name in
    puts_then c.put_fixed64_unless_zero.result (fixed64_unless_zero 1 e.timestamp) (name ++ (given ++ dropped)) o c.put_fixed64_unless_zero.new.out
    (put_then name (given ++ dropped) o
    (put_then given dropped o c.in_ok-put_number_unless_zero.ensures
    (same_put (λ xs. attributes 3 (map attribute_of xs)) c.put_number_unless_zero.new.out c.as_slice.ensures.value c.in_ok-put_attributes.ensures))
    (same_put (bytes_unless_empty 2) c.put_attributes.new.out c.as_str.ensures c.in_ok-put_text_unless_empty.ensures))
    c.put_fixed64_unless_zero.ensures
