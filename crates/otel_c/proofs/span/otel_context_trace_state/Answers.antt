use Rattle.otel_c.proofs.Refusals.{succeeds}
use Rattle.otel_c.proofs.span.otel_context_trace_state.Goals as goal

pub returns-clause-header : goal.returns-clause-header
returns-clause-header c = succeeds _ _ _ c.code.ensures c.trace_state.ensures.header
