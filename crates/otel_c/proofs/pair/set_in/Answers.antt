use Rattle.otel_c.proofs.Making.{sets_pair}
use Rattle.otel_c.proofs.pair.set_in.Goals as goal

pub returns-clause-pair : goal.returns-clause-pair
returns-clause-pair c = sets_pair _ _ _ _ _ _ _ _ _ c.in_ok-before.ensures.copy
    c.span_context-span.ensures c.trace_state.ensures c.in_ok-state.ensures.made
    c.with_state.ensures c.in_ok-with_remote_span_context.ensures
