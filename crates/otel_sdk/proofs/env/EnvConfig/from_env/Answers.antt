use Rattle.std.proofs.Common.{List, subst}
use Rattle.otel_sdk.specs.EnvConfig.{IsConfigOf, config_of}
use Rattle.otel_sdk.specs.EnvTexts.{variables_of}
use Rattle.otel_sdk.specs.EnvVariables.{names_in}
use Rattle.otel_sdk.specs.declared.env.help.TheConstants.{HELP}
use Rattle.otel_sdk.specs.declared.env.unsupported.TheConstants.{UNSUPPORTED}
use Rattle.otel_sdk.proofs.EnvVariableLemmas.{both_read}
use Rattle.otel_sdk.proofs.env.EnvConfig.from_env.Goals as goal

pub returns-clause-read : goal.returns-clause-read
returns-clause-read g c = (
  variables_of c.append.new.self.items,
  both_read g.R.VariableSource.may_be (names_in HELP.now) (names_in UNSUPPORTED.now) c.in_ok-vars.vars.items c.in_ok-variables.field-0.items _ c.in_ok-append.ensures.items c.in_ok-vars.ensures c.in_ok-variables.ensures,
  subst (λ (vars : List _). IsConfigOf (variables_of vars) (config_of c.in_ok-config.config)) c.as_slice.ensures.value c.in_ok-config.ensures,
)
