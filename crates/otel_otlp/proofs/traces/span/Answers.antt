use Rattle.std.proofs.Common.{◌++◌, ◌∙◌, ap, codes, decimal, map}
use Rattle.opentelemetry.specs.View.{event_of, link_of}
use Rattle.otel_base.specs.View.{attribute_of}
use Rattle.otel_ids.specs.TraceState.{header}
use Rattle.otel_otlp.specs.Common.{attributes_member}
use Rattle.otel_otlp.specs.Json.{number_member, number_unless_zero, text_member, text_unless_empty, span_id_text, trace_id_text}
use Rattle.otel_otlp.specs.Traces.{flags, kind_number, status_member, parent_member, events_member, links_member}
use Rattle.otel_otlp.proofs.MessagesInOrder.{span_group, span_proper}
use Rattle.otel_otlp.proofs.Tokens.{token, last_token, whole_object, and_members, and_three, and_no_more, same}
use Rattle.otel_otlp.proofs.traces.span.Goals as goal

pub returns : goal.returns
returns c =
    let s = c.args.span.now in
    let view = c.span.view_is in
    last_token c.end_object.result c.end_object.ensures
    (whole_object (span_group s) (span_proper s) (token c.in_ok-begin_object.was c.begin_object.ensures)
    (and_members (same attributes_member (ap (map attribute_of) c.as_slice.ensures.value ∙ ap (λ d. d.attributes) view) c.in_ok-put_attributes.ensures)
    (and_three (number_unless_zero (codes "droppedAttributesCount") s.dropped_attributes) (number_unless_zero (codes "droppedEventsCount") s.dropped_events)
    (number_unless_zero (codes "droppedLinksCount") s.dropped_links) c.in_ok-put_losses.ensures
    (and_members (same (λ n. text_member (codes "endTimeUnixNano") (decimal n)) (ap (λ d. d.end_time) view) c.in_ok-put_decimal.ensures)
    (and_members (same events_member (ap (map event_of) c.as_slice-2.ensures.value ∙ ap (λ d. d.events) view) c.in_ok-put_events.ensures)
    (and_members (same (number_member (codes "flags")) (c.flags.ensures ∙ ap (λ d. flags d.span_context.trace_flags d.parent_span_is_remote) view) c.in_ok-put_number.ensures)
    (and_members (same (λ k. number_member (codes "kind") (kind_number k)) (ap (λ d. d.span_kind) view) c.in_ok-put_kind.ensures)
    (and_members (same links_member (ap (map link_of) c.as_slice-3.ensures.value ∙ ap (λ d. d.links) view) c.in_ok-put_links.ensures)
    (and_members (same (text_member (codes "name")) (c.as_str.ensures ∙ ap (λ d. d.name) view) c.in_ok-put_text.ensures)
    (and_members (same parent_member (ap (λ d. d.parent_span_id) view) c.in_ok-put_parent.ensures)
    (and_members (same (λ id. text_member (codes "spanId") (span_id_text id)) (c.span_id.ensures ∙ ap (λ d. d.span_context.span_id) view) c.in_ok-put_span_id.ensures)
    (and_members (same (λ n. text_member (codes "startTimeUnixNano") (decimal n)) (ap (λ d. d.start_time) view) c.in_ok-put_decimal-2.ensures)
    (and_members (same status_member (ap (λ d. d.status) view) c.in_ok-put_status.ensures)
    (and_no_more (same (λ x. text_member (codes "traceId") (trace_id_text x.trace_id) ++ text_unless_empty (codes "traceState") (header x.trace_state)) (ap (λ d. d.span_context) view)
    c.in_ok-put_trace.ensures)))))))))))))))
