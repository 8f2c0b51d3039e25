use Rattle.otel_c.proofs.Refusals.{succeeds, refuses}
use Rattle.otel_c.proofs.member.otel_baggage_set.Goals as goal

pub returns-clause-member : goal.returns-clause-member
returns-clause-member c = succeeds _ _ _ c.code.ensures c.set.ensures.member

pub returns-clause-refused : goal.returns-clause-refused
returns-clause-refused c = refuses _ _ _ c.code.ensures c.set.ensures.refused
