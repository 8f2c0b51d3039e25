use Rattle.otel_carry.proofs.OutcomeLemmas.{cut_off_is_1, ends_kept}
use Rattle.otel_carry.proofs.carry.carry.Goals as goal

pub returns-in-Ok-clause-ends : goal.returns-in-Ok-clause-ends
returns-in-Ok-clause-ends g c = λ other. ends_kept _ _ _ _ _ _ _ c.flush.ensures.bytes c.in-Ok.ensures.ends

pub returns-in-Ok-clause-failed_write : goal.returns-in-Ok-clause-failed_write
returns-in-Ok-clause-failed_write g c =
    cut_off_is_1 _ _ _ _ _ _ c.in-Ok.ensures.status (ends_kept _ _ _ _ _ _ _ c.flush.ensures.bytes c.in-Ok.ensures.ends)
