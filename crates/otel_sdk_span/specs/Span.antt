-- The effects of the calls of a span.
use Rattle.std.specs.Prelude.{ℕ, List, [], ◌∷◌, ◌++◌, length, Bool, true, false, ◌&&◌, not}
use Rattle.std.specs.Prelude.{◌||◌, nat_eq, nat_lt, Option, Some, None, fold, is_some}
use Rattle.std.specs.Prelude.{if◌then◌else◌}
use Rattle.std.specs.Option.{option_map}
use Rattle.std.specs.Ordering.{is_gt}
use Rattle.otel_base.specs.KeyValue.{Attribute}
use Rattle.otel_context.specs.Status.{cmp}
use Rattle.otel_context.specs.declared.span.status.Status.{Status}
use Rattle.otel_ids.specs.SpanContext.{SpanContextRecord}
use Rattle.opentelemetry.specs.Event.{EventRecord, LinkRecord}
use Rattle.otel_sdk_base.specs.Attributes.{cut, keeps, set, up_by}
use Rattle.otel_sdk_span.specs.SpanData.{SpanRecord}
use Rattle.otel_sdk_span.specs.SpanLimits.{default_limits, limited_event, limited_link}
use Rattle.otel_sdk_span.specs.declared.limits.SpanLimits.{SpanLimits}

-- ---- the recorded data after a call
-- The attribute is truncated, and set if the limit allows it or counted as dropped otherwise.
abbrev pub with_attribute : SpanLimits → SpanRecord → Attribute → SpanRecord
with_attribute limits d given =
    let a = cut limits.max_attribute_length given in
    let limit = limits.max_attributes_per_span in
    record d {
      attributes = set limit d.attributes a;
      dropped_attributes =
          if keeps limit d.attributes a then d.dropped_attributes else up_by d.dropped_attributes 1;
    }

-- The event is appended, within its own limits, if there are fewer events than the limit. Otherwise
-- it is counted as dropped. So the first ones stay.
abbrev pub with_event : SpanLimits → SpanRecord → EventRecord → SpanRecord
with_event limits d e =
    let has_room = nat_lt (length d.events) limits.max_events_per_span in
    record d {
      events = if has_room then d.events ++ limited_event limits e ∷ [] else d.events;
      dropped_events = if has_room then d.dropped_events else up_by d.dropped_events 1;
    }

-- whether the link has a span context that isn't valid, and neither attributes nor a trace state
-- [OpenTelemetry trace API, "Add Link"]
abbrev pub says_nothing : LinkRecord → Bool
says_nothing l =
    (nat_eq l.span_context.trace_id 0 || nat_eq l.span_context.span_id 0)
    && nat_eq (length l.attributes) 0
    && nat_eq (length l.span_context.trace_state) 0

-- the same for a link that isn't empty
abbrev pub with_kept_link : SpanLimits → SpanRecord → LinkRecord → SpanRecord
with_kept_link limits d l =
    let has_room = nat_lt (length d.links) limits.max_links_per_span in
    record d {
      links = if has_room then d.links ++ limited_link limits l ∷ [] else d.links;
      dropped_links = if has_room then d.dropped_links else up_by d.dropped_links 1;
    }

-- an empty link changes nothing
abbrev pub with_link : SpanLimits → SpanRecord → LinkRecord → SpanRecord
with_link limits d l = if says_nothing l then d else with_kept_link limits d l

-- The status only increases: it is the greater of the new one and the old one [the Rust crate's
-- `set_status`].
abbrev pub with_status : SpanRecord → Status → SpanRecord
with_status d status = record d {
  status = if is_gt (cmp status d.status) then status else d.status;
}

-- The data within the limits: its attributes are set in turn, then its events and then its links
-- are added in turn, as by later calls.
abbrev pub keep_within : SpanLimits → SpanRecord → SpanRecord
keep_within limits d =
    let empty = record d { attributes = []; events = []; links = [] } in
    let with_attributes = fold (with_attribute limits) empty d.attributes in
    let with_events = fold (with_event limits) with_attributes d.events in
    fold (with_link limits) with_events d.links

-- ---- spans
-- A span: its span context, its recorded data if it has ever recorded, its limits, and whether it
-- has ended.
pub record SpanState : Type 0 where
  pub context : SpanContextRecord
  pub recorded : Option SpanRecord
  pub limits : SpanLimits
  pub has_ended : Bool

-- a span that starts with this data, as far as the limits allow
abbrev pub started : SpanLimits → SpanRecord → SpanState
started limits d = record {
  context = d.span_context;
  recorded = Some (keep_within limits d);
  limits = limits;
  has_ended = false;
}

-- a span that has only its span context, and records nothing
abbrev pub unrecorded : SpanContextRecord → SpanState
unrecorded context = record {
  context = context;
  recorded = None;
  limits = default_limits;
  has_ended = false;
}

-- whether the span records: it has recorded data, and hasn't ended
abbrev pub is_recording : SpanState → Bool
is_recording s = is_some s.recorded && not s.has_ended

-- The span with the change applied to its data, if it records. After its end, nothing changes
-- [OpenTelemetry trace API, "End"].
abbrev pub recording : SpanState → (SpanRecord → SpanRecord) → SpanState
recording s change = record s {
  recorded = if s.has_ended then s.recorded else option_map change s.recorded;
}

abbrev pub after_event : SpanState → List ℕ → ℕ → List Attribute → SpanState
after_event s name time attributes = recording s (λ d. with_event s.limits d (record {
  name = name;
  timestamp = time;
  attributes = attributes;
  dropped_attributes_count = 0;
}))

abbrev pub after_attribute : SpanState → Attribute → SpanState
after_attribute s a = recording s (λ d. with_attribute s.limits d a)

abbrev pub after_link : SpanState → SpanContextRecord → List Attribute → SpanState
after_link s context attributes = recording s (λ d. with_link s.limits d (record {
  span_context = context;
  attributes = attributes;
  dropped_attributes_count = 0;
}))

abbrev pub after_status : SpanState → Status → SpanState
after_status s status = recording s (λ d. with_status d status)

abbrev pub after_name : SpanState → List ℕ → SpanState
after_name s name = recording s (λ d. record d { name = name })

-- The time is kept as given, even if it is before the start. A second end changes nothing.
abbrev pub after_end : SpanState → ℕ → SpanState
after_end s time = record (recording s (λ d. record d { end_time = time })) { has_ended = true }
