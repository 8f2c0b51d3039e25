use Rattle.otel_c.proofs.Refusals.{succeeds}
use Rattle.otel_c.proofs.traceparent.otel_context_traceparent.Goals as goal

pub returns-clause-header : goal.returns-clause-header
returns-clause-header c = succeeds _ _ _ c.code.ensures c.traceparent.ensures.header
