use Rattle.otel_c.proofs.Refusals.{succeeds}
use Rattle.otel_c.proofs.baggage.otel_baggage_get.Goals as goal

pub returns-clause-value : goal.returns-clause-value
returns-clause-value c = succeeds _ _ _ c.code.ensures c.value.ensures.value
