use Rattle.std.proofs.Common.{ap, string_bytes}
use Rattle.otel_sdk_span.specs.SpanData.{SpanRecord}
use Rattle.otel_waterfall.specs.PageRow as spec
use Rattle.otel_waterfall.proofs.Joins.{says}
use Rattle.otel_waterfall.proofs.page.row.push_time.Goals as goal

pub returns : goal.returns
returns c =
    let d = c.args.span.now.data in
    says c.push_duration.result (string_bytes c.args.text.now) (spec.duration c.span.inside.start_time c.span.inside.end_time) (spec.duration d.start_time d.end_time) (string_bytes c.push_duration.new.text)
    (ap (λ (r : SpanRecord). spec.duration r.start_time r.end_time) c.span.view_is) c.push_duration.ensures
