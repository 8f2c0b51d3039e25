-- The models of this crate's types.
use Rattle.std.specs.Prelude.{map, option_map}
use Rattle.otel_context.specs.SpanEffects.{attributes_of}
use Rattle.opentelemetry.specs.Event.{EventRecord, LinkRecord}
use Rattle.opentelemetry.specs.declared.trace.event.Event.{Event}
use Rattle.opentelemetry.specs.SpanBuilder.{BuilderRecord}
use Rattle.opentelemetry.specs.declared.trace.link.Link.{Link}
use Rattle.opentelemetry.specs.declared.trace.span_builder.SpanBuilder.{SpanBuilder}

-- an event as a record, its attributes as a list
abbrev pub event_of : Event → EventRecord
event_of e = record {
  name = e.name;
  timestamp = e.timestamp;
  attributes = attributes_of e.attributes;
  dropped_attributes_count = e.dropped_attributes_count;
}

-- a link as a record, its attributes as a list
abbrev pub link_of : Link → LinkRecord
link_of l = record {
  span_context = l.span_context;
  attributes = attributes_of l.attributes;
  dropped_attributes_count = l.dropped_attributes_count;
}

-- a builder as a record, its attributes, events and links as lists if they are set
abbrev pub builder_of : SpanBuilder → BuilderRecord
builder_of b = record {
  span_kind = b.span_kind;
  name = b.name;
  start_time = b.start_time;
  attributes = option_map attributes_of b.attributes;
  events = option_map (λ v. map event_of v.items) b.events;
  links = option_map (λ v. map link_of v.items) b.links;
}
