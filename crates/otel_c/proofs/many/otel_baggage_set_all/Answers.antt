use Rattle.otel_c.proofs.Refusals.{succeeds}
use Rattle.otel_c.proofs.many.otel_baggage_set_all.Goals as goal

pub returns-clause-members : goal.returns-clause-members
returns-clause-members c = succeeds _ _ _ c.code.ensures c.set_all.ensures.members
