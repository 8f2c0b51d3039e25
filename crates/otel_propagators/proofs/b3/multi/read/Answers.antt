use Rattle.otel_propagators.proofs.B3Reads.{multi_from}
use Rattle.otel_propagators.proofs.b3.multi.read.Goals as goal

pub returns : goal.returns
returns g c =
    multi_from _ c.span_of.result _ _ _ _ _ _ _ c.span_of.ensures c.read_trace_id-trace_id.ensures c.read_span_id-span_id.ensures c.read_state.ensures
    c.in_ok-get.ensures c.in_ok-get-2.ensures c.in_ok-flags.ensures c.in_ok-sampled.ensures
