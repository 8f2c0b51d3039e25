use Rattle.std.proofs.Common.{◌≡◌, ℕ, ◌++◌, subst, codes}
use Rattle.otel_sdk.specs.EnvTexts.{number_warnings, variables_of}
use Rattle.otel_sdk.proofs.env.limits.log_limits.Goals as goal

pub returns-clause-warnings : goal.returns-clause-warnings
returns-clause-warnings c =
    subst (λ (n : ℕ). c.number_or.new.warnings.items ≡ c.args.warnings.now.items
    ++ number_warnings (codes "OTEL_LOGRECORD_ATTRIBUTE_COUNT_LIMIT") 0 n (variables_of c.args.vars.now))
    c.requires.count c.in_ok-number_or.ensures.warnings
