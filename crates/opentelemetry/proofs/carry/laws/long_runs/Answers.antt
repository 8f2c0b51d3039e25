use Rattle.opentelemetry.proofs.LongLemmas.{in_order_is, begun_again_is}
use Rattle.opentelemetry.proofs.carry.laws.long_runs.Goals as goal

pub returns-clause-in_order : goal.returns-clause-in_order
returns-clause-in_order c = in_order_is

pub returns-clause-begun_again : goal.returns-clause-begun_again
returns-clause-begun_again c = begun_again_is
