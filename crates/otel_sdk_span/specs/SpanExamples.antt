-- Worked rows of the effects of the calls of a span.
use Rattle.std.specs.Prelude.{◌≡◌, ℕ, List, [], ◌∷◌, codes, true, false, Some, None, refl}
use Rattle.std.specs.Prelude.{fold}
use Rattle.otel_base.specs.KeyValue.{Attribute}
use Rattle.otel_base.specs.Value.{boolean}
use Rattle.otel_context.specs.declared.span.status.SpanKind.TheVariants.{Internal}
use Rattle.otel_context.specs.declared.span.status.Status.TheVariants as Status
use Rattle.otel_ids.specs.SpanContext.{no_span_context}
use Rattle.opentelemetry.specs.Event.{EventRecord, LinkRecord}
use Rattle.otel_sdk_span.specs.SpanData.{SpanRecord}
use Rattle.otel_sdk_span.specs.SpanLimits.{default_limits, limited_event}
use Rattle.otel_sdk_span.specs.Span as span
use Rattle.otel_sdk_span.specs.declared.limits.SpanLimits.{SpanLimits}

-- a span that has recorded nothing
abbrev nothing : SpanRecord
nothing = record {
  span_context = no_span_context;
  parent_span_id = 0;
  parent_span_is_remote = false;
  span_kind = Internal;
  name = [];
  start_time = 50;
  end_time = 50;
  attributes = [];
  dropped_attributes = 0;
  events = [];
  dropped_events = 0;
  links = [];
  dropped_links = 0;
  status = Status.Unset;
  scope = record { name = []; version = None; schema_url = None; attributes = [] };
}

abbrev key : List ℕ → Attribute
key k = (k, boolean true)

abbrev event : List Attribute → ℕ → EventRecord
event attributes count = record {
  name = codes "e";
  timestamp = 7;
  attributes = attributes;
  dropped_attributes_count = count;
}

abbrev link_to_nothing : List Attribute → LinkRecord
link_to_nothing attributes = record {
  span_context = no_span_context;
  attributes = attributes;
  dropped_attributes_count = 0;
}

-- ---- limits
abbrev two : SpanLimits
two = record default_limits { max_attributes_per_span = 2 }

abbrev three_keys : SpanRecord
three_keys =
    fold (span.with_attribute two) nothing
    (key (codes "a") ∷ key (codes "b") ∷ key (codes "c") ∷ [])

-- with a limit of two, the first two of three keys stay
first_attributes_example : three_keys.attributes ≡ key (codes "a") ∷ key (codes "b") ∷ []
first_attributes_example = refl

dropped_attributes_example : three_keys.dropped_attributes ≡ 1
dropped_attributes_example = refl

abbrev one_event : SpanLimits
one_event = record default_limits { max_events_per_span = 1; max_attributes_per_event = 1 }

abbrev three_events : SpanRecord
three_events =
    fold (span.with_event one_event) nothing (event [] 0 ∷ event [] 1 ∷ event [] 2 ∷ [])

first_event_example : three_events.events ≡ event [] 0 ∷ []
first_event_example = refl

dropped_events_example : three_events.dropped_events ≡ 2
dropped_events_example = refl

-- an event that had dropped four attributes drops one more
event_count_example :
    limited_event one_event (event (key (codes "x") ∷ key (codes "y") ∷ []) 4)
    ≡ event (key (codes "x") ∷ []) 5
event_count_example = refl

nothing_said_example : (span.with_link default_limits nothing (link_to_nothing [])).links ≡ []
nothing_said_example = refl

attribute_said_example :
    (span.with_link default_limits nothing (link_to_nothing (key (codes "k") ∷ []))).links
    ≡ link_to_nothing (key (codes "k") ∷ []) ∷ []
attribute_said_example = refl

-- ---- statuses
-- the statuses error a, ok, error b and unset, set in turn, leave ok
success_stays_example :
    (fold span.with_status nothing
    (Status.Error (codes "a") ∷ Status.Ok ∷ Status.Error (codes "b") ∷ Status.Unset ∷ [])).status
    ≡ Status.Ok
success_stays_example = refl

later_error_example :
    (fold span.with_status nothing
    (Status.Error (codes "a") ∷ Status.Error (codes "b") ∷ [])).status
    ≡ Status.Error (codes "b")
later_error_example = refl

greater_error_example :
    (fold span.with_status nothing
    (Status.Error (codes "b") ∷ Status.Error (codes "a") ∷ [])).status
    ≡ Status.Error (codes "b")
greater_error_example = refl

-- ---- ends
abbrev running : span.SpanState
running = span.started default_limits nothing

-- a second end, and an attribute after the end, change nothing
second_end_example : span.after_end (span.after_end running 10) 20 ≡ span.after_end running 10
second_end_example = refl

late_attribute_example :
    span.after_attribute (span.after_end running 10) (key (codes "a")) ≡ span.after_end running 10
late_attribute_example = refl

-- an end before the start
early_end_example : (span.after_end running 40).recorded ≡ Some (record nothing { end_time = 40 })
early_end_example = refl
