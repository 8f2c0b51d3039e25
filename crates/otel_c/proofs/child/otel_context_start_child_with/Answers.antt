use Rattle.otel_c.proofs.Refusals.{succeeds}
use Rattle.otel_c.proofs.child.otel_context_start_child_with.Goals as goal

pub returns-clause-child : goal.returns-clause-child
returns-clause-child c = succeeds _ _ _ c.code.ensures c.start.ensures.child
