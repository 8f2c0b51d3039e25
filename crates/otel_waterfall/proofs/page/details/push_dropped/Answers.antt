-- The three numbers, one after another.
use Rattle.std.proofs.Common.{◌++◌, ap, codes, string_bytes}
use Rattle.otel_sdk_span.specs.SpanData.{SpanRecord}
use Rattle.otel_waterfall.specs.Details as spec
use Rattle.otel_waterfall.specs.Escape.{count_field}
use Rattle.otel_waterfall.proofs.Joins.{chain3, says}
use Rattle.otel_waterfall.proofs.Traces.{map_ok}
use Rattle.otel_waterfall.proofs.page.details.push_dropped.Goals as goal

pub returns : goal.returns
returns c =
    let s = c.span.inside in
    let a = count_field (codes "dropped attributes") s.dropped_attributes_count in
    let e = count_field (codes "dropped events") s.events.dropped_count in
    let l = count_field (codes "dropped links") s.links.dropped_count in
    says c.push_count-3.result (string_bytes c.args.text.now) (a ++ (e ++ l)) (spec.dropped c.args.span.now) (string_bytes c.push_count-3.new.text)
    (ap (λ (d : SpanRecord). count_field (codes "dropped attributes") d.dropped_attributes ++ (count_field (codes "dropped events") d.dropped_events ++ count_field (codes "dropped links") d.dropped_links)) c.span.view_is)
    (map_ok _ _ c.push_count-3.result
    (chain3 a e l (string_bytes c.args.text.now) (string_bytes c.push_count.new.text) (string_bytes c.push_count-2.new.text) (string_bytes c.push_count-3.new.text)
    c.in_ok-push_count.ensures c.in_ok-push_count-2.ensures)
    c.push_count-3.ensures)
