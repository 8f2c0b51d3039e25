use Rattle.otel_c.proofs.Refusals.{succeeds}
use Rattle.otel_c.proofs.span.otel_context_span.Goals as goal

pub returns-clause-parts : goal.returns-clause-parts
returns-clause-parts c = succeeds _ _ _ c.code.ensures c.span.ensures.parts
