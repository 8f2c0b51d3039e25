use Rattle.otel_c.proofs.Refusals.{succeeds}
use Rattle.otel_c.proofs.stack.otel_stack_attach.Goals as goal

pub returns-clause-attached : goal.returns-clause-attached
returns-clause-attached c = succeeds _ _ _ c.code.ensures c.attach.ensures.attached
