use Rattle.otel_c.proofs.Members.{makes}
use Rattle.otel_c.proofs.member.set.Goals as goal

pub returns-clause-member : goal.returns-clause-member
returns-clause-member c =
    makes c.make.result _ _ _ _ c.in_ok-given.ensures.member c.make.ensures.context
