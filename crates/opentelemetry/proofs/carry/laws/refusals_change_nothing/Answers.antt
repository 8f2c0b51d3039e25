use Rattle.opentelemetry.proofs.RefusalLemmas.{nothing}
use Rattle.opentelemetry.proofs.carry.laws.refusals_change_nothing.Goals as goal

pub returns : goal.returns
returns c = nothing
