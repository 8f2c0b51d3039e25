-- The lists, one after another.
use Rattle.std.proofs.Common.{List, ◌++◌, map, ap, ◌∙◌, codes, string_bytes}
use Rattle.otel_base.specs.View.{attribute_of}
use Rattle.otel_base.specs.declared.key_value.KeyValue.{KeyValue}
use Rattle.opentelemetry.specs.View.{event_of, link_of}
use Rattle.opentelemetry.specs.declared.trace.event.Event.{Event}
use Rattle.opentelemetry.specs.declared.trace.link.Link.{Link}
use Rattle.otel_sdk_span.specs.SpanData.{SpanRecord}
use Rattle.otel_waterfall.specs.Details as spec
use Rattle.otel_waterfall.proofs.Joins.{chain7, says}
use Rattle.otel_waterfall.proofs.Traces.{map_ok}
use Rattle.otel_waterfall.proofs.page.details.push_lists.Goals as goal

pub returns : goal.returns
returns c =
    let s = c.span.inside in
    let a = spec.attributes (map attribute_of s.attributes.items) in
    let e = spec.events c.args.from (map event_of s.events.events.items) in
    let l = spec.links (map link_of s.links.links.items) in
    let h₁ = codes "<h4>attributes</h4><dl>" in
    let h₂ = codes "</dl><h4>events</h4><ol>" in
    let h₃ = codes "</ol><h4>links</h4><ol>" in
    let h₄ = codes "</ol>" in
    says c.push_html-4.result (string_bytes c.args.text.now) (h₁ ++ (a ++ (h₂ ++ (e ++ (h₃ ++ (l ++ h₄)))))) (spec.lists c.args.from c.args.span.now) (string_bytes c.push_html-4.new.text)
    (ap (λ (d : SpanRecord). h₁ ++ (spec.attributes d.attributes ++ (h₂ ++ (spec.events c.args.from d.events ++ (h₃ ++ (spec.links d.links ++ h₄)))))) c.span.view_is)
    (map_ok _ _ c.push_html-4.result
    (chain7 h₁ a h₂ e h₃ l h₄
    (string_bytes c.args.text.now) (string_bytes c.push_html.new.text) (string_bytes c.push_attributes.new.text) (string_bytes c.push_html-2.new.text) (string_bytes c.push_events.new.text) (string_bytes c.push_html-3.new.text) (string_bytes c.push_links.new.text) (string_bytes c.push_html-4.new.text)
    c.in_ok-push_html.ensures
    (c.in_ok-push_attributes.ensures ∙ ap (λ (xs : List KeyValue). string_bytes c.push_html.new.text ++ spec.attributes (map attribute_of xs)) c.as_slice.ensures.value)
    c.in_ok-push_html-2.ensures
    (c.in_ok-push_events.ensures ∙ ap (λ (xs : List Event). string_bytes c.push_html-2.new.text ++ spec.events c.args.from (map event_of xs)) c.as_slice-2.ensures.value)
    c.in_ok-push_html-3.ensures
    (c.in_ok-push_links.ensures ∙ ap (λ (xs : List Link). string_bytes c.push_html-3.new.text ++ spec.links (map link_of xs)) c.as_slice-3.ensures.value))
    c.push_html-4.ensures)
