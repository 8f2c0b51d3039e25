use Rattle.otel_c.proofs.Shown.{has_current}
use Rattle.otel_c.proofs.stack.current.Goals as goal

pub returns-clause-current : goal.returns-clause-current
returns-clause-current c =
    has_current c.make.result _ _ _ c.in_ok-found.ensures.current c.make.ensures.context
