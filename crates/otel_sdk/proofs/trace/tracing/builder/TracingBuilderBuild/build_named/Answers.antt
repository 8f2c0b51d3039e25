use Rattle.std.proofs.Common.{rules}
use Rattle.otel_sdk.proofs.Outcomes.{weaken}
use Rattle.otel_sdk.proofs.trace.tracing.builder.TracingBuilderBuild.build_named.Goals as goal

pub returns : goal.returns
returns g c = weaken _ _ (λ made made_is. record {
  processors = c.set_resource.new.self;
  told = search rules;
  state = search rules;
}) c.over.result c.over.ensures
