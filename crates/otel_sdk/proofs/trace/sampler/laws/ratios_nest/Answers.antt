use Rattle.otel_sdk.specs.Ratio.{half}
use Rattle.otel_sdk.proofs.Rising as rising
use Rattle.otel_sdk.proofs.trace.sampler.laws.ratios_nest.Goals as goal

pub returns-clause-bound_rises : goal.returns-clause-bound_rises
returns-clause-bound_rises c = rising.bound_rises

pub returns-clause-nested : goal.returns-clause-nested
returns-clause-nested c = λ a b trace_id. rising.sampled_at_greater a b (half trace_id)
