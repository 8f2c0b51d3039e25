use Rattle.otel_c.proofs.Refusals.{succeeds, refuses}
use Rattle.otel_c.proofs.member.otel_baggage_remove.Goals as goal

pub returns-clause-context : goal.returns-clause-context
returns-clause-context c = succeeds _ _ _ c.code.ensures c.remove.ensures.context

pub returns-clause-refused : goal.returns-clause-refused
returns-clause-refused c = refuses _ _ _ c.code.ensures c.remove.ensures.refused
