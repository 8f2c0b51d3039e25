use Rattle.otel_c.proofs.Members.{sets, set_refused}
use Rattle.otel_c.proofs.member.set_in.Goals as goal

pub returns-clause-member : goal.returns-clause-member
returns-clause-member c = sets _ _ c.in_ok-context.ensures.copy c.with_member.result
    _ _ _ _ _ _ c.in_ok-key.ensures.text c.in_ok-value.ensures.text
    c.in_ok-metadata.ensures.text c.with_member.ensures.member

pub returns-clause-refused : goal.returns-clause-refused
returns-clause-refused c = set_refused _ _ c.in_ok-context.ensures.copy c.with_member.result
    _ _ _ _ _ _ c.in_ok-key.ensures.text c.in_ok-value.ensures.text
    c.in_ok-metadata.ensures.text c.with_member.ensures.refused
