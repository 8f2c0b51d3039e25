use Rattle.std.proofs.Common.{◌++◌, map, ap, ◌∙◌}
use Rattle.otel_base.specs.View.{attribute_of}
use Rattle.opentelemetry.specs.View.{event_of, link_of}
use Rattle.otel_proto.specs.Common.{attributes}
use Rattle.otel_proto.specs.Written.{messages, number_unless_zero}
use Rattle.otel_proto.proofs.shared.Outputs.{put_then, puts_then, same_put, same_puts}
use Rattle.otel_proto_batches.specs.Traces.{event, link}
use Rattle.otel_proto_batches.proofs.traces.put_records.Goals as goal

pub returns : goal.returns
returns c =
    let o = c.args.out.now in
    let s = c.args.span.now in
    let view = c.span.view_is in
    let no_links = number_unless_zero 14 s.dropped_links in
    let links = messages 13 link s.links in
    let no_events = number_unless_zero 12 s.dropped_events in
    let events = messages 11 event s.events in
    let no_attributes = number_unless_zero 10 s.dropped_attributes in
    puts_then c.put_attributes.result (attributes 9 s.attributes) (no_attributes ++ (events ++ (no_events ++ (links ++ no_links)))) o c.put_attributes.new.out
    (put_then no_attributes (events ++ (no_events ++ (links ++ no_links))) o
    (put_then events (no_events ++ (links ++ no_links)) o
    (put_then no_events (links ++ no_links) o
    (put_then links no_links o
    (same_put (number_unless_zero 14) o (ap (λ d. d.dropped_links) view) c.in_ok-put_number_unless_zero.ensures)
    (same_put (messages 13 link) c.put_number_unless_zero.new.out (ap (map link_of) c.as_slice.ensures.value ∙ ap (λ d. d.links) view) c.in_ok-put_links.ensures))
    (same_put (number_unless_zero 12) c.put_links.new.out (ap (λ d. d.dropped_events) view) c.in_ok-put_number_unless_zero-2.ensures))
    (same_put (messages 11 event) c.put_number_unless_zero-2.new.out (ap (map event_of) c.as_slice-2.ensures.value ∙ ap (λ d. d.events) view) c.in_ok-put_events.ensures))
    (same_put (number_unless_zero 10) c.put_events.new.out (ap (λ d. d.dropped_attributes) view) c.in_ok-put_number_unless_zero-3.ensures))
    (same_puts (attributes 9) c.put_attributes.result c.put_number_unless_zero-3.new.out c.put_attributes.new.out (ap (map attribute_of) c.as_slice-3.ensures.value ∙ ap (λ d. d.attributes) view) c.put_attributes.ensures)
