-- The parts of an event, one after another.
use Rattle.std.proofs.Common.{ℕ, List, ◌++◌, map, ap, ◌∙◌, codes, string_bytes}
use Rattle.otel_base.specs.View.{attribute_of}
use Rattle.otel_base.specs.declared.key_value.KeyValue.{KeyValue}
use Rattle.otel_waterfall.specs.Details as spec
use Rattle.otel_waterfall.specs.Escape.{count_field}
use Rattle.otel_waterfall.proofs.Joins.{chain6}
use Rattle.otel_waterfall.proofs.Traces.{map_ok}
use Rattle.otel_waterfall.proofs.page.details.push_event.Goals as goal

pub returns : goal.returns
returns c =
    let e = c.args.event.now in
    map_ok _ _ c.push_html-2.result
    (chain6 (spec.event_name e.name) (spec.offset c.args.from e.timestamp) (codes "<dl>") (spec.attributes (map attribute_of e.attributes.items)) (count_field (codes "dropped attributes") e.dropped_attributes_count) (codes "</dl></li>")
    (string_bytes c.args.text.now) (string_bytes c.push_event_name.new.text) (string_bytes c.push_offset.new.text) (string_bytes c.push_html.new.text) (string_bytes c.push_attributes.new.text) (string_bytes c.push_count.new.text) (string_bytes c.push_html-2.new.text)
    (c.in_ok-push_event_name.ensures ∙ ap (λ (n : List ℕ). string_bytes c.args.text.now ++ spec.event_name n) c.as_str.ensures)
    c.in_ok-push_offset.ensures c.in_ok-push_html.ensures
    (c.in_ok-push_attributes.ensures ∙ ap (λ (xs : List KeyValue). string_bytes c.push_html.new.text ++ spec.attributes (map attribute_of xs)) c.as_slice.ensures.value)
    c.in_ok-push_count.ensures)
    c.push_html-2.ensures
