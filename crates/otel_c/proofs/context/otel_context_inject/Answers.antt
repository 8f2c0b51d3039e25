use Rattle.otel_c.proofs.Refusals.{succeeds}
use Rattle.otel_c.proofs.context.otel_context_inject.Goals as goal

pub returns-clause-headers : goal.returns-clause-headers
returns-clause-headers c = succeeds _ _ _ c.code.ensures c.inject.ensures.headers
