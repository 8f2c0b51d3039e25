use Rattle.opentelemetry.proofs.SurvivorLemmas.{those}
use Rattle.opentelemetry.proofs.carry.laws.survivors_are_those.Goals as goal

pub returns : goal.returns
returns c = those
