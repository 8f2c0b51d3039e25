use Rattle.std.proofs.Common.{◌++◌, ap}
use Rattle.otel_proto.proofs.shared.Outputs.{put_then, puts_then, same_put}
use Rattle.otel_proto_batches.specs.Logs.{content, details, trace, origin}
use Rattle.otel_proto_batches.proofs.logs.log_record.Goals as goal

pub returns : goal.returns
returns c =
    let o = c.args.out.now in
    let l = c.args.log.now in
    let last = origin l in
    let context = trace l.trace_context in
    puts_then c.put_content.result (content l) (details l ++ (context ++ last)) o c.put_content.new.out
    (put_then (details l) (context ++ last) o
    (put_then context last o c.in_ok-put_origin.ensures
    (same_put trace c.put_origin.new.out (ap (λ d. d.trace_context) c.log.view_is) c.in_ok-put_trace.ensures))
    c.in_ok-put_details.ensures)
    c.put_content.ensures
