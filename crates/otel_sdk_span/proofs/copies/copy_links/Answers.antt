use Rattle.otel_base.proofs.shared.MappedLists.{same_views}
use Rattle.opentelemetry.specs.View.{link_of}
use Rattle.otel_sdk_span.proofs.copies.copy_links.Goals as goal

pub returns : goal.returns
returns c = same_views link_of _ _ c.in_ok-clone.ensures.cases.0
