use Rattle.otel_sdk_logs.proofs.Lists.{copied_pairs}
use Rattle.otel_sdk_logs.proofs.attributes.copy_all.Goals as goal

pub returns : goal.returns
returns c = copied_pairs _ _ c.in_ok-clone.ensures.cases.0
