use Rattle.otel_proto.proofs.shared.Outputs.{puts_message}
use Rattle.otel_proto_batches.specs.Traces.{success}
use Rattle.otel_proto_batches.proofs.traces.put_success.Goals as goal

pub returns : goal.returns
returns c =
    puts_message c.put_head.result 15 c.count-end.result success c.args.out.now c.put_head.new.out c.count-end.ensures c.in_ok-put_number.ensures c.put_head.ensures
