-- The members of resources, scopes and spans, and the order of their names.
use Rattle.std.proofs.Common.{ℕ, ◌==◌, List, map, length, codes, decimal, Bool, inl, refl}
use Rattle.opentelemetry.specs.Event.{EventRecord, LinkRecord}
use Rattle.otel_base.specs.InstrumentationScope.{Scope}
use Rattle.otel_base.specs.KeyValue.{Attribute}
use Rattle.otel_context.specs.declared.span.status.Status.{Status}
use Rattle.otel_context.specs.declared.span.status.Status.TheVariants as status
use Rattle.otel_ids.specs.SpanContext.{SpanContextRecord}
use Rattle.otel_ids.specs.TraceState.{header}
use Rattle.otel_sdk_base.specs.Resource.{Parts}
use Rattle.otel_sdk_span.specs.SpanData.{SpanRecord}
use Rattle.serde_json.specs.Data.{Data, string, number, unsigned, array}
use Rattle.serde_json.specs.View.{items_of}
use Rattle.otel_otlp.specs.Common.{key_value, attributes_member, unique}
use Rattle.otel_otlp.specs.Json.{text_member, number_member, text_unless_empty, number_unless_zero, list_unless_empty, text_if_given, trace_id_text, span_id_text}
use Rattle.otel_otlp.specs.Traces as spec
use Rattle.otel_otlp.specs.Traces.{flags, kind_number, status_member, parent_member, events_member, links_member}
use Rattle.otel_otlp.proofs.InOrder.{Group, one, both, IsAt, IsGroup, at_member, at_unless, at_text_if_given}
use Rattle.otel_otlp.proofs.Tokens.{IsProper}

at_list : (n : List ℕ) (ds : List Data) → IsAt n (list_unless_empty n ds)
at_list n ds = at_unless (length ds == 0) n (array (items_of ds))

at_number : (n : List ℕ) (k : ℕ) → IsAt n (number_unless_zero n k)
at_number n k = at_unless (k == 0) n (number (unsigned k))

at_text : (n text : List ℕ) → IsAt n (text_unless_empty n text)
at_text n text = at_unless (length text == 0) n (string text)

at_attributes : (xs : List Attribute) → IsAt (codes "attributes") (attributes_member xs)
at_attributes xs = at_list (codes "attributes") (map key_value xs)

-- ---- one member each
abbrev attributes_row : List Attribute → Group
attributes_row xs = one (codes "attributes") (attributes_member xs)

abbrev dropped_row : ℕ → Group
dropped_row n = one (codes "droppedAttributesCount") (number_unless_zero (codes "droppedAttributesCount") n)

abbrev text_row : List ℕ → List ℕ → Group
text_row n text = one n (text_member n text)

abbrev number_row : List ℕ → ℕ → Group
number_row n k = one n (number_member n k)

-- ---- resources and scopes
abbrev pub resource_group : Parts → Group
resource_group r = attributes_row r.attributes

pub resource_proper : (r : Parts) → IsProper (resource_group r)
resource_proper r = record { group = at_attributes r.attributes; distinct = refl; rise = refl }

abbrev pub scope_group : Scope → Group
scope_group s =
    both (both (text_row (codes "name") s.name) (one (codes "version") (text_if_given (codes "version") s.version)))
    (attributes_row (unique s.attributes))

pub scope_proper : (s : Scope) → IsProper (scope_group s)
scope_proper s = record {
  group = ((at_member (codes "name") (string s.name), at_text_if_given (codes "version") s.version), at_attributes (unique s.attributes));
  distinct = refl;
  rise = refl;
}

-- ---- events and links
abbrev pub event_group : EventRecord → Group
event_group e =
    both (both (both (text_row (codes "timeUnixNano") (decimal e.timestamp)) (text_row (codes "name") e.name))
    (attributes_row e.attributes)) (dropped_row e.dropped_attributes_count)

pub event_proper : (e : EventRecord) → IsProper (event_group e)
event_proper e = record {
  group = (
    ((at_member (codes "timeUnixNano") (string (decimal e.timestamp)), at_member (codes "name") (string e.name)), at_attributes e.attributes),
    at_number (codes "droppedAttributesCount") e.dropped_attributes_count,
  );
  distinct = refl;
  rise = refl;
}

abbrev context_rows : SpanContextRecord → Group
context_rows c =
    both (both (text_row (codes "traceId") (trace_id_text c.trace_id)) (text_row (codes "spanId") (span_id_text c.span_id)))
    (one (codes "traceState") (text_unless_empty (codes "traceState") (header c.trace_state)))

at_context : (c : SpanContextRecord) → IsGroup (context_rows c)
at_context c = (
  (at_member (codes "traceId") (string (trace_id_text c.trace_id)), at_member (codes "spanId") (string (span_id_text c.span_id))),
  at_text (codes "traceState") (header c.trace_state),
)

at_flags : (trace_flags : ℕ) (is_remote : Bool) → IsAt (codes "flags") (number_member (codes "flags") (flags trace_flags is_remote))
at_flags trace_flags is_remote = at_member (codes "flags") (number (unsigned (flags trace_flags is_remote)))

abbrev pub link_group : LinkRecord → Group
link_group l =
    both (both (both (context_rows l.span_context) (number_row (codes "flags") (flags l.span_context.trace_flags l.span_context.is_remote)))
    (attributes_row l.attributes)) (dropped_row l.dropped_attributes_count)

pub link_proper : (l : LinkRecord) → IsProper (link_group l)
link_proper l = record {
  group = (
    ((at_context l.span_context, at_flags l.span_context.trace_flags l.span_context.is_remote), at_attributes l.attributes),
    at_number (codes "droppedAttributesCount") l.dropped_attributes_count,
  );
  distinct = refl;
  rise = refl;
}

-- ---- the status of a failure
abbrev pub failure_group : List ℕ → Group
failure_group description =
    both (number_row (codes "code") 2) (one (codes "message") (text_unless_empty (codes "message") description))

pub failure_proper : (description : List ℕ) → IsProper (failure_group description)
failure_proper description = record {
  group = (at_member (codes "code") (number (unsigned 2)), at_text (codes "message") description);
  distinct = refl;
  rise = refl;
}

-- ---- spans
at_status : (s : Status) → IsAt (codes "status") (status_member s)
at_status status.Unset = inl refl
at_status status.Ok = at_member (codes "status") spec.success
at_status (status.Error description) = at_member (codes "status") (spec.failure description)

module _ (s : SpanRecord) where
  abbrev identity_rows : Group
  identity_rows =
      both (both (context_rows s.span_context) (one (codes "parentSpanId") (parent_member s.parent_span_id)))
      (number_row (codes "flags") (flags s.span_context.trace_flags s.parent_span_is_remote))

  abbrev work_rows : Group
  work_rows =
      both (both (both (both (text_row (codes "name") s.name) (number_row (codes "kind") (kind_number s.span_kind)))
      (text_row (codes "startTimeUnixNano") (decimal s.start_time))) (text_row (codes "endTimeUnixNano") (decimal s.end_time)))
      (one (codes "status") (status_member s.status))

  abbrev records_rows : Group
  records_rows =
      both (both (attributes_row s.attributes) (one (codes "events") (events_member s.events)))
      (one (codes "links") (links_member s.links))

  abbrev losses_rows : Group
  losses_rows =
      both (both (dropped_row s.dropped_attributes) (one (codes "droppedEventsCount") (number_unless_zero (codes "droppedEventsCount") s.dropped_events)))
      (one (codes "droppedLinksCount") (number_unless_zero (codes "droppedLinksCount") s.dropped_links))

  abbrev pub span_group : Group
  span_group = both (both (both identity_rows work_rows) records_rows) losses_rows

  at_identity : IsGroup identity_rows
  at_identity = (
    (at_context s.span_context, at_unless (s.parent_span_id == 0) (codes "parentSpanId") (string (span_id_text s.parent_span_id))),
    at_flags s.span_context.trace_flags s.parent_span_is_remote,
  )

  at_work : IsGroup work_rows
  at_work = (
    (
      (
        (at_member (codes "name") (string s.name), at_member (codes "kind") (number (unsigned (kind_number s.span_kind)))),
        at_member (codes "startTimeUnixNano") (string (decimal s.start_time)),
      ),
      at_member (codes "endTimeUnixNano") (string (decimal s.end_time)),
    ),
    at_status s.status,
  )

  at_records : IsGroup records_rows
  at_records = (
    (at_attributes s.attributes, at_list (codes "events") (map spec.event s.events)),
    at_list (codes "links") (map spec.link s.links),
  )

  at_losses : IsGroup losses_rows
  at_losses = (
    (at_number (codes "droppedAttributesCount") s.dropped_attributes, at_number (codes "droppedEventsCount") s.dropped_events),
    at_number (codes "droppedLinksCount") s.dropped_links,
  )

  pub span_proper : IsProper span_group
  span_proper = record { group = (((at_identity, at_work), at_records), at_losses); distinct = refl; rise = refl }
