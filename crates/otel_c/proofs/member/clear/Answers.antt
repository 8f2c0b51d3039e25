use Rattle.otel_c.proofs.Members.{makes}
use Rattle.otel_c.proofs.member.clear.Goals as goal

pub returns-clause-context : goal.returns-clause-context
returns-clause-context c =
    makes c.make.result _ _ _ _ c.in_ok-given.ensures.context c.make.ensures.context
