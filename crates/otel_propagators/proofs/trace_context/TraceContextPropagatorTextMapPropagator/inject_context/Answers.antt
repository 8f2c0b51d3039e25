use Rattle.std.proofs.Common.{ap, ◌∙◌}
use Rattle.otel_ids.specs.TraceState.{header}
use Rattle.otel_propagators.proofs.Injecting.{injects_parent}
use Rattle.otel_propagators.proofs.trace_context.TraceContextPropagatorTextMapPropagator.inject_context.Goals as goal

pub returns : goal.returns
returns g c =
    injects_parent c.set-2.result _ _ _ _ _ _ _ c.span_context-span_context.ensures (c.is_valid.ensures.0 c.if-not-is_valid.false) c.in_ok-traceparent.ensures (c.in_ok-tracestate.ensures.text ∙ ap header c.trace_state.ensures)
    c.in_ok-set.ensures.0 c.in_ok-set.ensures.1.1 c.set-2.ensures.0 c.set-2.ensures.1.0 c.set-2.ensures.1.1
