use Rattle.otel_c.proofs.Refusals.{succeeds}
use Rattle.otel_c.proofs.member.otel_baggage_clear.Goals as goal

pub returns-clause-context : goal.returns-clause-context
returns-clause-context c = succeeds _ _ _ c.code.ensures c.clear.ensures.context
