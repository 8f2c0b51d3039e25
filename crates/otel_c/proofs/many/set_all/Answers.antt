use Rattle.otel_c.proofs.Members.{makes}
use Rattle.otel_c.proofs.many.set_all.Goals as goal

pub returns-clause-members : goal.returns-clause-members
returns-clause-members c =
    makes c.make.result _ _ _ _ c.in_ok-given.ensures.members c.make.ensures.context
