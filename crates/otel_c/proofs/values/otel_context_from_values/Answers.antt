use Rattle.otel_c.proofs.Refusals.{succeeds}
use Rattle.otel_c.proofs.values.otel_context_from_values.Goals as goal

pub returns-clause-read : goal.returns-clause-read
returns-clause-read c = succeeds _ _ _ c.code.ensures c.from_values.ensures.read
