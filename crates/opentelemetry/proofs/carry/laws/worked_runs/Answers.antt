use Rattle.opentelemetry.proofs.WorkedLemmas.{three_is, again_is, before_is, oldest_is}
use Rattle.opentelemetry.proofs.carry.laws.worked_runs.Goals as goal

pub returns-clause-three_and_one : goal.returns-clause-three_and_one
returns-clause-three_and_one c = three_is

pub returns-clause-detached_again : goal.returns-clause-detached_again
returns-clause-detached_again c = again_is

pub returns-clause-detached_before : goal.returns-clause-detached_before
returns-clause-detached_before c = before_is

pub returns-clause-oldest_first : goal.returns-clause-oldest_first
returns-clause-oldest_first c = oldest_is
