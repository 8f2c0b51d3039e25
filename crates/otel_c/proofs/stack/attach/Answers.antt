use Rattle.otel_c.proofs.Shown.{attaches}
use Rattle.otel_c.proofs.stack.attach.Goals as goal

pub returns-clause-attached : goal.returns-clause-attached
returns-clause-attached c =
    attaches _ _ c.in_ok-context.ensures.copy c.push_to.result _ _ _ c.push_to.ensures.attached
