use Rattle.otel_c.proofs.Apart.{copies_apart}
use Rattle.otel_c.proofs.detached.detach.Goals as goal

pub returns-clause-copy : goal.returns-clause-copy
returns-clause-copy c =
    copies_apart c.make.result _ _ _ _ c.in_ok-shared.ensures.copy c.in_ok-made.ensures.same
    c.make.ensures.context
