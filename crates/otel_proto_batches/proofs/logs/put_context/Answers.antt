use Rattle.std.proofs.Common.{[], ◌∷◌, ◌++◌}
use Rattle.otel_proto.proofs.shared.Outputs.{put_then, puts_then}
use Rattle.otel_proto_batches.specs.Common.{trace_id, span_id}
use Rattle.otel_proto_batches.specs.Logs.{flags}
use Rattle.otel_proto_batches.proofs.logs.put_context.Goals as goal

pub returns : goal.returns
returns c =
    let o = c.args.out.now in
    let x = c.args.context.now in
    let second = span_id 10 x.span_id ∷ [] in
    let first = trace_id 9 x.trace_id ∷ [] in
    puts_then c.put_flags.result (flags x.trace_flags) (first ++ second) o c.put_flags.new.out
    (put_then first second o c.in_ok-put_span_id.ensures c.in_ok-put_trace_id.ensures)
    c.put_flags.ensures
