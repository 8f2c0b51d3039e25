use Rattle.otel_c.proofs.Making.{sets_span}
use Rattle.otel_c.proofs.span.set_span.Goals as goal

pub returns-clause-span : goal.returns-clause-span
returns-clause-span c = sets_span c.make.result _ _ _ _ _ _ _ _ c.in_ok-before.ensures.copy
    c.in_ok-state.ensures.read c.with_state.ensures c.in_ok-made.ensures c.make.ensures.context
