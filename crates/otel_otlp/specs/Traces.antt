-- The messages of traces [opentelemetry/proto/trace/v1/trace.proto].
use Rattle.std.specs.Prelude.{◌≡◌, ℕ, ◌+◌, ◌==◌, List, [], ◌∷◌, ◌++◌, map, Bool, true, false, codes}
use Rattle.std.specs.Prelude.{if◌then◌else◌, refl}
use Rattle.otel_base.specs.InstrumentationScope.{Scope}
use Rattle.otel_context.specs.declared.span.status.SpanKind.{SpanKind}
use Rattle.otel_context.specs.declared.span.status.SpanKind.TheVariants as kind
use Rattle.otel_context.specs.declared.span.status.Status.{Status}
use Rattle.otel_context.specs.declared.span.status.Status.TheVariants as status
use Rattle.otel_ids.specs.SpanContext.{SpanContextRecord}
use Rattle.otel_ids.specs.TraceState.{header}
use Rattle.opentelemetry.specs.Event.{EventRecord, LinkRecord}
use Rattle.otel_sdk_span.specs.SpanData.{SpanRecord}
use Rattle.otel_sdk_base.specs.Resource.{Parts}
use Rattle.serde_json.specs.Data.{Data}
use Rattle.otel_otlp.specs.Json.{Member, object_of, text_member, number_member, decimal_member}
use Rattle.otel_otlp.specs.Json.{text_unless_empty}
use Rattle.otel_otlp.specs.Json.{number_unless_zero, list_unless_empty}
use Rattle.otel_otlp.specs.Json.{trace_id_text, span_id_text}
use Rattle.otel_otlp.specs.Common.{attributes_member}
use Rattle.otel_otlp.specs.Groups as groups
use Rattle.otel_otlp.specs.Groups.{BatchForm}

-- ---- Span.Event
abbrev pub event : EventRecord → Data
event e =
    object_of (decimal_member (codes "timeUnixNano") e.timestamp
    ++ text_member (codes "name") e.name
    ++ attributes_member e.attributes
    ++ number_unless_zero (codes "droppedAttributesCount") e.dropped_attributes_count)

-- ---- flags
-- bits 0 to 7 are the trace flags, bit 8 says that bit 9 is known, and bit 9 whether it is remote:
-- the parent of a span, the linked span of a link
abbrev pub flags : ℕ → Bool → ℕ
flags trace_flags is_remote = trace_flags + (if is_remote then 768 else 256)

-- ---- a span context
-- the ids, and the trace state as its header's text, left out if it is empty
abbrev pub context_members : SpanContextRecord → List Member
context_members c =
    text_member (codes "traceId") (trace_id_text c.trace_id)
    ++ text_member (codes "spanId") (span_id_text c.span_id)
    ++ text_unless_empty (codes "traceState") (header c.trace_state)

-- ---- Span.Link
abbrev pub link : LinkRecord → Data
link l =
    object_of (context_members l.span_context
    ++ number_member (codes "flags") (flags l.span_context.trace_flags l.span_context.is_remote)
    ++ attributes_member l.attributes
    ++ number_unless_zero (codes "droppedAttributesCount") l.dropped_attributes_count)

-- ---- Status
-- `STATUS_CODE_OK` is 1 and `STATUS_CODE_ERROR` 2
abbrev pub success : Data
success = object_of (number_member (codes "code") 1)

abbrev pub failure : List ℕ → Data
failure description =
    object_of (number_member (codes "code") 2
    ++ text_unless_empty (codes "message") description)

-- the member `status`, left out if none was set
abbrev pub status_member : Status → List Member
status_member status.Unset = []
status_member status.Ok = (codes "status", success) ∷ []
status_member (status.Error description) = (codes "status", failure description) ∷ []

-- ---- Span
-- `SPAN_KIND_INTERNAL` to `SPAN_KIND_CONSUMER`
abbrev pub kind_number : SpanKind → ℕ
kind_number kind.Internal = 1
kind_number kind.Server = 2
kind_number kind.Client = 3
kind_number kind.Producer = 4
kind_number kind.Consumer = 5

-- a root has no parent
abbrev pub parent_member : ℕ → List Member
parent_member id = if id == 0 then [] else text_member (codes "parentSpanId") (span_id_text id)

-- the identity of the span
abbrev pub identity : SpanRecord → List Member
identity s =
    context_members s.span_context
    ++ parent_member s.parent_span_id
    ++ number_member (codes "flags") (flags s.span_context.trace_flags s.parent_span_is_remote)

-- the name, the kind, the times and the status
abbrev pub work : SpanRecord → List Member
work s =
    text_member (codes "name") s.name
    ++ number_member (codes "kind") (kind_number s.span_kind)
    ++ decimal_member (codes "startTimeUnixNano") s.start_time
    ++ decimal_member (codes "endTimeUnixNano") s.end_time
    ++ status_member s.status

abbrev pub events_member : List EventRecord → List Member
events_member es = list_unless_empty (codes "events") (map event es)

abbrev pub links_member : List LinkRecord → List Member
links_member ls = list_unless_empty (codes "links") (map link ls)

-- the attributes, the events and the links
abbrev pub records : SpanRecord → List Member
records s =
    attributes_member s.attributes
    ++ events_member s.events
    ++ links_member s.links

-- the numbers of attributes, events and links that were dropped because of limits
abbrev pub losses : SpanRecord → List Member
losses s =
    number_unless_zero (codes "droppedAttributesCount") s.dropped_attributes
    ++ number_unless_zero (codes "droppedEventsCount") s.dropped_events
    ++ number_unless_zero (codes "droppedLinksCount") s.dropped_links

abbrev pub span : SpanRecord → Data
span s = object_of (identity s ++ work s ++ records s ++ losses s)

-- ---- TracesData
abbrev pub scope_of : SpanRecord → Scope
scope_of s = s.scope

-- the form of a batch of spans
abbrev pub form : BatchForm SpanRecord
form = record {
  scope_of = scope_of;
  value_of = span;
  resources = codes "resourceSpans";
  scopes = codes "scopeSpans";
  items = codes "spans";
}

-- the spans of the scope among these, in order, with the scope
abbrev pub scope_spans : List SpanRecord → Scope → Data
scope_spans = groups.scope_value form

-- the spans of one resource, the scopes in the order in which they first appear
abbrev pub resource_spans : Parts → List SpanRecord → Data
resource_spans = groups.resource_value form

-- a batch of spans of one resource, as one object
abbrev pub traces_data : Parts → List SpanRecord → Data
traces_data = groups.batch_value form

-- ---- worked rows
remote_example : flags 3 true ≡ 771
remote_example = refl

local_example : flags 3 false ≡ 259
local_example = refl
