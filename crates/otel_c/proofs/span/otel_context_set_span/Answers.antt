use Rattle.otel_c.proofs.Refusals.{succeeds}
use Rattle.otel_c.proofs.span.otel_context_set_span.Goals as goal

pub returns-clause-span : goal.returns-clause-span
returns-clause-span c = succeeds _ _ _ c.code.ensures c.set_span.ensures.span
