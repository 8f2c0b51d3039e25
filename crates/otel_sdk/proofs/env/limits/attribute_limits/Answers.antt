use Rattle.otel_sdk.proofs.EnvLemmas.{then_more}
use Rattle.otel_sdk.proofs.env.limits.attribute_limits.Goals as goal

pub returns-clause-warnings : goal.returns-clause-warnings
returns-clause-warnings c =
    then_more _ _ _ c.number_or.new.warnings.items _ c.in_ok-number_or.ensures.warnings c.in_ok-limit_or.ensures.warnings
