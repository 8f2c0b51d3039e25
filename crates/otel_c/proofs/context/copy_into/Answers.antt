use Rattle.otel_c.proofs.Shown.{copies}
use Rattle.otel_c.proofs.context.copy_into.Goals as goal

pub returns-clause-copy : goal.returns-clause-copy
returns-clause-copy c = copies _ _ c.in_ok-made.ensures.copy c.make.result _ c.make.ensures.context
