use Rattle.otel_otlp.proofs.OneGroup.{equal_groups_name_same}
use Rattle.otel_otlp.proofs.laws.equal_groups_name_same.Goals as goal

pub returns : goal.returns
returns c = equal_groups_name_same
