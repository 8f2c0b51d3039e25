use Rattle.std.proofs.lemmas.Result.{err_from_is_err_and}
use Rattle.otel_propagators.specs.TraceContext.{trace_pairs}
use Rattle.otel_propagators.specs.BaggagePropagator.{baggage_pairs}
use Rattle.otel_propagators.proofs.Both.{fails_first, goes_on}
use Rattle.otel_propagators.proofs.w3c.W3cPropagatorTextMapPropagator.inject_context.Goals as goal

pub returns-in_err-inject_context : goal.returns-in_err-inject_context
returns-in_err-inject_context g c =
    let p = err_from_is_err_and c.from_residual.result c.from_residual.ensures.1 in
    rw (p.1, p.2) (fails_first (trace_pairs c.args.context.now) (baggage_pairs c.args.context.now) _ _ _ c.in_err-inject_context.ensures)

pub returns : goal.returns
returns g c = goes_on c.inject_context-2.result (trace_pairs c.args.context.now) (baggage_pairs c.args.context.now) _ _ _ _ c.in_ok-inject_context.ensures c.inject_context-2.ensures
