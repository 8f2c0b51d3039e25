use Rattle.std.proofs.Common.{sym, ap, ◌∙◌}
use Rattle.otel_sdk.specs.EnvConfig.{env_config}
use Rattle.otel_sdk.proofs.EndpointLemmas.{one_faults}
use Rattle.otel_sdk.proofs.laws.variables_give_one_configuration.Goals as goal

pub returns : goal.returns
returns c = λ vars a b h k. h.2 ∙ ap (λ faults. env_config faults vars) (one_faults vars h.0 k.0 h.1 k.1) ∙ sym k.2
