use Rattle.otel_otlp.proofs.ReadErrors.{passed}
use Rattle.otel_otlp.proofs.read.spans.context.Goals as goal

pub returns-in_err-state-clause-err : goal.returns-in_err-state-clause-err
returns-in_err-state-clause-err c =
    passed _ _ _ c.from_residual-in_err-state.ensures.1
    (λ no s h. c.in_err-state.ensures.err no s.trace_state h.trace_state)
