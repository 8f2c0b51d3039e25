use Rattle.std.proofs.Common.{ap, ◌∙◌, string_bytes}
use Rattle.otel_sdk_span.specs.SpanData.{SpanRecord}
use Rattle.otel_waterfall.specs.Drawn.{outcome_of}
use Rattle.otel_waterfall.specs.PageRow as spec
use Rattle.otel_waterfall.specs.declared.span.Outcome.{Outcome}
use Rattle.otel_waterfall.proofs.Joins.{says}
use Rattle.otel_waterfall.proofs.page.row.push_open.Goals as goal

pub returns : goal.returns
returns c =
    says c.push_opening.result (string_bytes c.args.text.now) (spec.opening c.outcome_of.result c.args.depth) (spec.opening (outcome_of c.args.span.now.data.status) c.args.depth) (string_bytes c.push_opening.new.text)
    (ap (λ (o : Outcome). spec.opening o c.args.depth) (c.outcome_of.ensures ∙ ap (λ (r : SpanRecord). outcome_of r.status) c.span.view_is)) c.push_opening.ensures
