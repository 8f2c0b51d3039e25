use Rattle.std.proofs.Common.{[], ◌∷◌}
use Rattle.otel_proto.specs.Wire.{varint}
use Rattle.otel_proto.specs.Written.{bytes_unless_empty}
use Rattle.otel_proto.proofs.shared.Outputs.{put_then, puts_message}
use Rattle.otel_proto_batches.specs.Traces.{failure}
use Rattle.otel_proto_batches.proofs.traces.put_failure.Goals as goal

pub returns : goal.returns
returns c =
    let o = c.args.out.now in
    let description = c.args.description.now in
    puts_message c.put_head.result 15 c.count-end.result (failure description) o c.put_head.new.out c.count-end.ensures
    (put_then (bytes_unless_empty 2 description) ((3, varint 2) ∷ []) o c.in_ok-put_number.ensures c.in_ok-put_text_unless_empty.ensures)
    c.put_head.ensures
