use Rattle.otel_base.proofs.shared.MappedLists.{cloned_pairs}
use Rattle.otel_sdk_span.proofs.copies.copy_attributes.Goals as goal

pub returns : goal.returns
returns c = cloned_pairs _ _ c.in_ok-clone.ensures.cases.0
