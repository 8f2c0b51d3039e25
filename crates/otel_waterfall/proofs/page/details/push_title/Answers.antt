use Rattle.std.proofs.Common.{ap, ◌∙◌, string_bytes}
use Rattle.otel_sdk_span.specs.SpanData.{SpanRecord}
use Rattle.otel_waterfall.specs.Details.{heading}
use Rattle.otel_waterfall.proofs.Joins.{says}
use Rattle.otel_waterfall.proofs.page.details.push_title.Goals as goal

pub returns : goal.returns
returns c =
    says c.push_heading.result (string_bytes c.args.text.now) (heading c.as_str.result.now) (heading c.args.span.now.data.name) (string_bytes c.push_heading.new.text)
    (ap heading (c.as_str.ensures ∙ ap (λ (d : SpanRecord). d.name) c.span.view_is)) c.push_heading.ensures
