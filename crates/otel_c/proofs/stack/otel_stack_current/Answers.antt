use Rattle.otel_c.proofs.Refusals.{succeeds}
use Rattle.otel_c.proofs.stack.otel_stack_current.Goals as goal

pub returns-clause-current : goal.returns-clause-current
returns-clause-current c = succeeds _ _ _ c.code.ensures c.current.ensures.current
