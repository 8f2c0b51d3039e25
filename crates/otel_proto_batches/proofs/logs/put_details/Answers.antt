use Rattle.otel_proto.specs.Written.{messages, number_unless_zero}
use Rattle.otel_proto.proofs.shared.Outputs.{puts_then, same_put}
use Rattle.otel_proto_batches.specs.Logs.{attribute, attributes, dropped}
use Rattle.otel_proto_batches.proofs.logs.put_details.Goals as goal

pub returns : goal.returns
returns c =
    let o = c.args.out.now in
    let l = c.args.log.now in
    puts_then c.put_attributes.result (messages 6 attribute (attributes l)) (number_unless_zero 7 (dropped l)) o c.put_attributes.new.out
    (same_put (number_unless_zero 7) o c.dropped.ensures c.in_ok-put_number_unless_zero.ensures)
    c.put_attributes.ensures
