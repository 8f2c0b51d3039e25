-- The limits on the data of a span.
use Rattle.std.specs.Prelude.{◌≡◌, List, [], map, refl}
use Rattle.std.specs.Prelude.{None}
use Rattle.otel_base.specs.KeyValue.{Attribute}
use Rattle.opentelemetry.specs.Event.{EventRecord, LinkRecord}
use Rattle.otel_sdk_base.specs.Attributes.{cut, set_all, dropped, up_by}
use Rattle.otel_sdk_span.specs.declared.limits.SpanLimits.{SpanLimits}

-- 128 of each, and values of any length [OpenTelemetry trace SDK, "Span Limits"]
abbrev pub default_limits : SpanLimits
default_limits = record {
  max_events_per_span = 128;
  max_attributes_per_span = 128;
  max_links_per_span = 128;
  max_attributes_per_event = 128;
  max_attributes_per_link = 128;
  max_attribute_length = None;
}

-- the attributes with their values truncated
abbrev pub cut_all : SpanLimits → List Attribute → List Attribute
cut_all limits xs = map (cut limits.max_attribute_length) xs

-- the event with its attributes truncated and then set in turn up to the limit; the dropped ones
-- are counted
abbrev pub limited_event : SpanLimits → EventRecord → EventRecord
limited_event limits e =
    let given = cut_all limits e.attributes in
    record e {
      attributes = set_all limits.max_attributes_per_event [] given;
      dropped_attributes_count =
          up_by e.dropped_attributes_count (dropped limits.max_attributes_per_event [] given);
    }

-- the link with its attributes truncated and then set in turn up to the limit; the dropped ones
-- are counted
abbrev pub limited_link : SpanLimits → LinkRecord → LinkRecord
limited_link limits l =
    let given = cut_all limits l.attributes in
    record l {
      attributes = set_all limits.max_attributes_per_link [] given;
      dropped_attributes_count =
          up_by l.dropped_attributes_count (dropped limits.max_attributes_per_link [] given);
    }

-- ---- worked rows
counted_example : up_by 4 1 ≡ 5
counted_example = refl

greatest_example : up_by 4294967294 1 ≡ 4294967295
greatest_example = refl

stopped_example : up_by 4294967295 1 ≡ 4294967295
stopped_example = refl
