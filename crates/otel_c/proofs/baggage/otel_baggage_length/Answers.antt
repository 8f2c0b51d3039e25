use Rattle.otel_c.proofs.Refusals.{succeeds}
use Rattle.otel_c.proofs.baggage.otel_baggage_length.Goals as goal

pub returns-clause-number : goal.returns-clause-number
returns-clause-number c = succeeds _ _ _ c.code.ensures c.count.ensures.number
