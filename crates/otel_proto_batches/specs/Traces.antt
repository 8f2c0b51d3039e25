-- The messages of traces [opentelemetry/proto/trace/v1/trace.proto].
use Rattle.std.specs.Prelude.{◌≡◌, ℕ, ◌+◌, ◌==◌, List, [], ◌∷◌, ◌++◌, Bool, true}
use Rattle.std.specs.Prelude.{if◌then◌else◌, refl, codes}
use Rattle.otel_base.specs.InstrumentationScope.{Scope}
use Rattle.otel_context.specs.declared.span.status.SpanKind.{SpanKind}
use Rattle.otel_context.specs.declared.span.status.SpanKind.TheVariants as kind
use Rattle.otel_context.specs.declared.span.status.Status.{Status}
use Rattle.otel_context.specs.declared.span.status.Status.TheVariants as status
use Rattle.otel_ids.specs.SpanContext.{SpanContextRecord}
use Rattle.otel_ids.specs.TraceState.{header}
use Rattle.opentelemetry.specs.Event.{EventRecord, LinkRecord}
use Rattle.otel_sdk_base.specs.Resource.{Parts}
use Rattle.otel_sdk_span.specs.SpanData.{SpanRecord}
use Rattle.otel_proto.specs.Common.{attributes}
use Rattle.otel_proto.specs.Wire.{Field, varint, fixed32}
use Rattle.otel_proto.specs.Written.{message, messages, bytes_unless_empty, number_unless_zero}
use Rattle.otel_proto.specs.Written.{fixed64_unless_zero, bytes_of, varint_bytes}
use Rattle.otel_proto_batches.specs.Common.{trace_id, span_id}
use Rattle.otel_proto_batches.specs.Groups as groups
use Rattle.otel_proto_batches.specs.Groups.{Form}

-- ---- Span.Event
abbrev pub event : EventRecord → List Field
event e =
    fixed64_unless_zero 1 e.timestamp
    ++ (bytes_unless_empty 2 e.name
    ++ (attributes 3 e.attributes
    ++ number_unless_zero 4 e.dropped_attributes_count))

-- ---- flags
-- bits 0 to 7 are the trace flags, bit 8 says that bit 9 is known, and bit 9 whether it is remote:
-- the parent of a span, the linked span of a link
abbrev pub flags : ℕ → Bool → ℕ
flags trace_flags is_remote = trace_flags + (if is_remote then 768 else 256)

-- ---- a span context
-- the ids, and the trace state as its header's text, left out if it is empty
abbrev pub context : SpanContextRecord → List Field
context c =
    trace_id 1 c.trace_id ∷ span_id 2 c.span_id ∷ bytes_unless_empty 3 (header c.trace_state)

-- ---- Span.Link
abbrev pub link : LinkRecord → List Field
link l =
    context l.span_context
    ++ (attributes 4 l.attributes
    ++ (number_unless_zero 5 l.dropped_attributes_count
    ++ (6, fixed32 (flags l.span_context.trace_flags l.span_context.is_remote)) ∷ []))

-- ---- Status
-- `STATUS_CODE_OK` is 1 and `STATUS_CODE_ERROR` 2
abbrev pub success : List Field
success = (3, varint 1) ∷ []

abbrev pub failure : List ℕ → List Field
failure description = bytes_unless_empty 2 description ++ (3, varint 2) ∷ []

-- left out if none was set
abbrev pub status_fields : Status → List Field
status_fields status.Unset = []
status_fields status.Ok = message 15 success ∷ []
status_fields (status.Error description) = message 15 (failure description) ∷ []

-- ---- Span
-- `SPAN_KIND_INTERNAL` to `SPAN_KIND_CONSUMER`
abbrev pub kind_number : SpanKind → ℕ
kind_number kind.Internal = 1
kind_number kind.Server = 2
kind_number kind.Client = 3
kind_number kind.Producer = 4
kind_number kind.Consumer = 5

-- a root has no parent
abbrev pub parent : ℕ → List Field
parent id = if id == 0 then [] else span_id 4 id ∷ []

-- the identity of the span
abbrev pub identity : SpanRecord → List Field
identity s = context s.span_context ++ parent s.parent_span_id

-- the name, the kind and the times
abbrev pub work : SpanRecord → List Field
work s =
    bytes_unless_empty 5 s.name
    ++ ((6, varint (kind_number s.span_kind)) ∷ fixed64_unless_zero 7 s.start_time
    ++ fixed64_unless_zero 8 s.end_time)

-- the attributes, the events and the links, each with the number of those that were dropped
-- because of limits
abbrev pub records : SpanRecord → List Field
records s =
    attributes 9 s.attributes
    ++ (number_unless_zero 10 s.dropped_attributes
    ++ (messages 11 event s.events
    ++ (number_unless_zero 12 s.dropped_events
    ++ (messages 13 link s.links
    ++ number_unless_zero 14 s.dropped_links))))

-- the status and the flags
abbrev pub outcome : SpanRecord → List Field
outcome s =
    status_fields s.status
    ++ (16, fixed32 (flags s.span_context.trace_flags s.parent_span_is_remote)) ∷ []

abbrev pub span : SpanRecord → List Field
span s = identity s ++ (work s ++ (records s ++ outcome s))

-- ---- ExportTraceServiceRequest
abbrev pub scope_of : SpanRecord → Scope
scope_of s = s.scope

-- the form of a batch of spans
abbrev pub form : Form SpanRecord
form = record { scope_of = scope_of; fields_of = span }

-- a batch of spans of one resource: the scopes in the order in which they first appear, each with
-- its spans in order
abbrev pub request : Parts → List SpanRecord → List Field
request = groups.request form

-- ---- worked rows
remote_example : flags 3 true ≡ 771
remote_example = refl

error_example : bytes_of (failure (codes "m")) ≡ 0x12 ∷ 1 ∷ 0x6d ∷ 0x18 ∷ 2 ∷ []
unfolding varint_bytes bytes_of
error_example = refl

event_example :
    bytes_of (event (record {
      name = codes "e";
      timestamp = 5;
      attributes = [];
      dropped_attributes_count = 3;
    }))
    ≡ 9 ∷ 5 ∷ 0 ∷ 0 ∷ 0 ∷ 0 ∷ 0 ∷ 0 ∷ 0 ∷ 0x12 ∷ 1 ∷ 0x65 ∷ 0x20 ∷ 3 ∷ []
unfolding varint_bytes bytes_of
event_example = refl
