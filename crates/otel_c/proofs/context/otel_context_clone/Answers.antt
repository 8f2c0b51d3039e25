use Rattle.otel_c.proofs.Refusals.{succeeds}
use Rattle.otel_c.proofs.context.otel_context_clone.Goals as goal

pub returns-clause-copy : goal.returns-clause-copy
returns-clause-copy c = succeeds _ _ _ c.code.ensures c.copy_into.ensures.copy
