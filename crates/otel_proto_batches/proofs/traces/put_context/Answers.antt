use Rattle.std.proofs.Common.{[], ◌∷◌, ◌++◌}
use Rattle.otel_ids.specs.TraceState.{header}
use Rattle.otel_proto.specs.Written.{bytes_unless_empty}
use Rattle.otel_proto.proofs.shared.Outputs.{put_then, puts_then, same_put, same_puts}
use Rattle.otel_proto_batches.specs.Common.{trace_id, span_id}
use Rattle.otel_proto_batches.proofs.traces.put_context.Goals as goal

pub returns : goal.returns
returns c =
    let o = c.args.out.now in
    let x = c.args.context.now in
    let state = bytes_unless_empty 3 (header x.trace_state) in
    let second = span_id 2 x.span_id ∷ [] in
    puts_then c.put_trace_id.result (trace_id 1 x.trace_id ∷ []) (second ++ state) o c.put_trace_id.new.out
    (put_then second state o
    (same_put (λ s. bytes_unless_empty 3 (header s)) o c.trace_state.ensures c.in_ok-put_trace_state.ensures)
    (same_put (λ id. span_id 2 id ∷ []) c.put_trace_state.new.out c.span_id.ensures c.in_ok-put_span_id.ensures))
    (same_puts (λ id. trace_id 1 id ∷ []) c.put_trace_id.result c.put_span_id.new.out c.put_trace_id.new.out c.trace_id.ensures c.put_trace_id.ensures)
