use Rattle.otel_c.proofs.Refusals.{refuses}
use Rattle.otel_c.proofs.trace_state.otel_trace_state_delete.Goals as goal

pub returns-clause-refused : goal.returns-clause-refused
returns-clause-refused c = refuses _ _ _ c.code.ensures c.delete.ensures.refused
