use Rattle.otel_c.proofs.Refusals.{succeeds}
use Rattle.otel_c.proofs.baggage.otel_context_baggage.Goals as goal

pub returns-clause-header : goal.returns-clause-header
returns-clause-header c = succeeds _ _ _ c.code.ensures c.header.ensures.header
