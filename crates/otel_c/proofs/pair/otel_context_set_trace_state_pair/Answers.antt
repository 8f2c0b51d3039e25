use Rattle.otel_c.proofs.Refusals.{succeeds, refuses}
use Rattle.otel_c.proofs.pair.otel_context_set_trace_state_pair.Goals as goal

pub returns-clause-pair : goal.returns-clause-pair
returns-clause-pair c = succeeds _ _ _ c.code.ensures c.set.ensures.pair

pub returns-clause-refused : goal.returns-clause-refused
returns-clause-refused c = refuses _ _ _ c.code.ensures c.set.ensures.refused
