use Rattle.std.proofs.Common.{ap, ◌∙◌, string_bytes}
use Rattle.otel_sdk_span.specs.SpanData.{SpanRecord}
use Rattle.otel_waterfall.specs.Drawn.{outcome_of}
use Rattle.otel_waterfall.specs.PageRow as spec
use Rattle.otel_waterfall.proofs.Joins.{says}
use Rattle.otel_waterfall.proofs.page.row.push_status.Goals as goal

pub returns : goal.returns
returns c =
    says c.push_outcome.result (string_bytes c.args.text.now) (spec.status c.outcome_of.result) (spec.status (outcome_of c.args.span.now.data.status)) (string_bytes c.push_outcome.new.text)
    (ap spec.status (c.outcome_of.ensures ∙ ap (λ (r : SpanRecord). outcome_of r.status) c.span.view_is)) c.push_outcome.ensures
