-- The parts of the bar, one after another.
use Rattle.std.proofs.Common.{List, ◌++◌, map, ap, ◌∙◌, codes, string_bytes}
use Rattle.opentelemetry.specs.View.{event_of}
use Rattle.opentelemetry.specs.declared.trace.event.Event.{Event}
use Rattle.otel_sdk_span.specs.SpanData.{SpanRecord}
use Rattle.otel_waterfall.specs.PageRow as spec
use Rattle.otel_waterfall.proofs.Joins.{chain4, says}
use Rattle.otel_waterfall.proofs.Traces.{map_ok}
use Rattle.otel_waterfall.proofs.page.row.push_bar.Goals as goal

pub returns : goal.returns
returns c =
    let s = c.span.inside in
    let scale = c.args.scale in
    let r = spec.rectangle_of scale.cells scale.from scale.to in
    let m = spec.marks scale.cells scale.from scale.to in
    says c.push_html-2.result (string_bytes c.args.text.now) (spec.open_bar ++ (r s.start_time s.end_time ++ (m (map event_of s.events.events.items) ++ codes "</svg>")))
    (spec.bar scale.cells scale.from scale.to c.args.span.now) (string_bytes c.push_html-2.new.text)
    (ap (λ (d : SpanRecord). spec.open_bar ++ (r d.start_time d.end_time ++ (m d.events ++ codes "</svg>"))) c.span.view_is)
    (map_ok _ _ c.push_html-2.result
    (chain4 spec.open_bar (r s.start_time s.end_time) (m (map event_of s.events.events.items)) (codes "</svg>")
    (string_bytes c.args.text.now) (string_bytes c.push_html.new.text) (string_bytes c.push_rectangle.new.text) (string_bytes c.push_marks.new.text) (string_bytes c.push_html-2.new.text)
    c.in_ok-push_html.ensures c.in_ok-push_rectangle.ensures
    (c.in_ok-push_marks.ensures ∙ ap (λ (xs : List Event). string_bytes c.push_rectangle.new.text ++ m (map event_of xs)) c.as_slice.ensures.value))
    c.push_html-2.ensures)
