use Rattle.std.proofs.Common.{ap}
use Rattle.otel_proto.proofs.shared.Outputs.{puts_then, same_put, same_puts}
use Rattle.otel_proto_batches.specs.Common.{text_if_given}
use Rattle.otel_proto_batches.specs.Logs.{time_if_given}
use Rattle.otel_proto_batches.proofs.logs.put_origin.Goals as goal

pub returns : goal.returns
returns c =
    let o = c.args.out.now in
    let l = c.args.log.now in
    let view = c.log.view_is in
    puts_then c.put_time.result (time_if_given 11 l.observed_timestamp) (text_if_given 12 l.event_name) o c.put_time.new.out
    (same_put (text_if_given 12) o (ap (λ d. d.event_name) view) c.in_ok-put_name.ensures)
    (same_puts (time_if_given 11) c.put_time.result c.put_name.new.out c.put_time.new.out (ap (λ d. d.observed_timestamp) view) c.put_time.ensures)
