use Rattle.otel_c.proofs.Refusals.{succeeds}
use Rattle.otel_c.proofs.baggage.otel_baggage_metadata.Goals as goal

pub returns-clause-metadata : goal.returns-clause-metadata
returns-clause-metadata c = succeeds _ _ _ c.code.ensures c.metadata.ensures.metadata
