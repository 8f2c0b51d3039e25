use Rattle.otel_c.proofs.Puts.{gives_all, gives_none}
use Rattle.otel_c.proofs.many.set_all_in.Goals as goal

pub returns-clause-members : goal.returns-clause-members
returns-clause-members c =
    gives_all _ _ c.in_ok-context.ensures.copy c.with_all.result _ c.with_all.ensures.members

pub returns-clause-refused : goal.returns-clause-refused
returns-clause-refused c =
    gives_none _ _ c.in_ok-context.ensures.copy c.with_all.result _ _ c.with_all.ensures.refused
