use Rattle.otel_c.proofs.Members.{makes}
use Rattle.otel_c.proofs.pair.set.Goals as goal

pub returns-clause-pair : goal.returns-clause-pair
returns-clause-pair c =
    makes c.make.result _ _ _ _ c.in_ok-given.ensures.pair c.make.ensures.context
