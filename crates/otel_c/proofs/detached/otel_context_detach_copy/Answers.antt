use Rattle.otel_c.proofs.Refusals.{succeeds}
use Rattle.otel_c.proofs.detached.otel_context_detach_copy.Goals as goal

pub returns-clause-copy : goal.returns-clause-copy
returns-clause-copy c = succeeds _ _ _ c.code.ensures c.detach.ensures.copy
