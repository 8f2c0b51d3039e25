use Rattle.otel_c.proofs.Refusals.{succeeds}
use Rattle.otel_c.proofs.baggage.otel_baggage_key.Goals as goal

pub returns-clause-key : goal.returns-clause-key
returns-clause-key c = succeeds _ _ _ c.code.ensures c.key.ensures.key
