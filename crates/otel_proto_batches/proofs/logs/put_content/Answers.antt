use Rattle.std.proofs.Common.{◌++◌, ap}
use Rattle.otel_proto.proofs.shared.Outputs.{put_then, puts_then, same_put, same_puts}
use Rattle.otel_proto_batches.specs.Common.{text_if_given}
use Rattle.otel_proto_batches.specs.Logs.{time_if_given, severity, body}
use Rattle.otel_proto_batches.proofs.logs.put_content.Goals as goal

pub returns : goal.returns
returns c =
    let o = c.args.out.now in
    let l = c.args.log.now in
    let view = c.log.view_is in
    let content = body l.body in
    let text = text_if_given 3 l.severity_text in
    let level = severity l.severity_number in
    puts_then c.put_time.result (time_if_given 1 l.timestamp) (level ++ (text ++ content)) o c.put_time.new.out
    (put_then level (text ++ content) o
    (put_then text content o
    (same_put body o (ap (λ d. d.body) view) c.in_ok-put_body.ensures)
    (same_put (text_if_given 3) c.put_body.new.out (ap (λ d. d.severity_text) view) c.in_ok-put_name.ensures))
    (same_put severity c.put_name.new.out (ap (λ d. d.severity_number) view) c.in_ok-put_severity.ensures))
    (same_puts (time_if_given 1) c.put_time.result c.put_severity.new.out c.put_time.new.out (ap (λ d. d.timestamp) view) c.put_time.ensures)
