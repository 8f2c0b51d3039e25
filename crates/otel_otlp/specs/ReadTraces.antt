-- The messages of traces, read from JSON whoever wrote it [OpenTelemetry protocol, "JSON Protobuf
-- Encoding"; opentelemetry/proto/trace/v1/trace.proto].
use Rattle.std.specs.Prelude.{◌≡◌, ℕ, ◌/◌, ◌%◌, ◌==◌, Bool, false, List, codes}
use Rattle.std.specs.Prelude.{if◌then◌else◌}
use Rattle.std.specs.Prelude.{Option, Some, None, MatchOption, option_and_then}
use Rattle.std.specs.Str.{bytes_eq}
use Rattle.otel_context.specs.declared.span.status.SpanKind.{SpanKind}
use Rattle.otel_context.specs.declared.span.status.SpanKind.TheVariants as kind
use Rattle.otel_context.specs.declared.span.status.Status.{Status}
use Rattle.otel_context.specs.declared.span.status.Status.TheVariants as status
use Rattle.otel_ids.specs.SpanContext.{SpanContextRecord}
use Rattle.opentelemetry.specs.Event.{EventRecord, LinkRecord}
use Rattle.otel_otlp.specs.ReadGroups as groups
use Rattle.otel_otlp.specs.ReadGroups.{ResourceItems}
use Rattle.otel_otlp.specs.ReadMembers.{IsObject, member_of, text_in, IsWideIn, IsNarrowIn}
use Rattle.otel_otlp.specs.ReadMembers.{trace_id_in, span_id_in, parent_id_in, HasState, AreIn}
use Rattle.otel_otlp.specs.ReadValues.{HasAttributes, HasDropped}
use Rattle.otel_otlp.specs.Traces.{form}
use Rattle.otel_sdk_span.specs.SpanData.{SpanRecord}
use Rattle.serde_json.specs.Data.{Data, null, boolean, number, string, array, object}
use Rattle.serde_json.specs.Find.{as_u64}

-- ---- Span.Event
pub record IsEvent (d : Data) (e : EventRecord) : Type 0 where
  pub is_object : IsObject d
  pub timestamp : IsWideIn (codes "timeUnixNano") d e.timestamp
  pub name : text_in (codes "name") d ≡ Some e.name
  pub attributes : HasAttributes d e.attributes
  pub dropped : HasDropped d e.dropped_attributes_count

-- ---- flags
-- bits 0 to 7 are the trace flags
abbrev pub trace_flags : ℕ → ℕ
trace_flags flags = flags % 256

-- bit 8 says that bit 9 is known, and bit 9 whether the parent or the linked span is remote
abbrev pub is_remote : ℕ → Bool
is_remote flags = flags / 256 % 4 == 3

-- ---- a span context
pub record IsContext (d : Data) (flags : ℕ) (remote : Bool) (c : SpanContextRecord) : Type 0 where
  pub trace_id : trace_id_in d ≡ Some c.trace_id
  pub span_id : span_id_in d ≡ Some c.span_id
  pub trace_flags : c.trace_flags ≡ trace_flags flags
  pub is_remote : c.is_remote ≡ remote
  pub trace_state : HasState d c.trace_state

-- ---- Span.Link
pub record IsLink (d : Data) (l : LinkRecord) : Type 0 where
  pub is_object : IsObject d
  pub flags : ℕ
  pub has_flags : IsNarrowIn (codes "flags") d flags
  pub context : IsContext d flags (is_remote flags) l.span_context
  pub attributes : HasAttributes d l.attributes
  pub dropped : HasDropped d l.dropped_attributes_count

-- ---- Status
abbrev pub code_numbered : ℕ → Option ℕ
code_numbered n =
    if n == 0 then Some 0 else if n == 1 then Some 1 else if n == 2 then Some 2 else None

abbrev pub code_named : List ℕ → Option ℕ
code_named name =
    if bytes_eq name (codes "STATUS_CODE_UNSET") then Some 0
    else if bytes_eq name (codes "STATUS_CODE_OK") then Some 1
    else if bytes_eq name (codes "STATUS_CODE_ERROR") then Some 2
    else None

-- an enumeration is a number or a name
abbrev pub code_of : Data → Option ℕ
code_of null = None
code_of (boolean _) = None
code_of (number n) = option_and_then code_numbered (as_u64 n)
code_of (string name) = code_named name
code_of (array _) = None
code_of (object _) = None

abbrev pub HasCode : Data → ℕ → Type 0
HasCode d code =
    MatchOption (member_of (codes "code") d) (code ≡ 0) (λ given. code_of given ≡ Some code)

-- only an error has a description
abbrev pub status_of : ℕ → List ℕ → Status
status_of code message =
    if code == 1 then status.Ok else if code == 2 then status.Error message else status.Unset

pub record IsStatus (d : Data) (s : Status) : Type 0 where
  pub is_object : IsObject d
  pub code : ℕ
  pub has_code : HasCode d code
  pub message : List ℕ
  pub has_message : text_in (codes "message") d ≡ Some message
  pub is : s ≡ status_of code message

abbrev pub HasStatus : Data → Status → Type 0
HasStatus d s =
    MatchOption (member_of (codes "status") d) (s ≡ status.Unset) (λ given. IsStatus given s)

-- ---- SpanKind
-- an unspecified kind is an internal one
abbrev pub kind_numbered : ℕ → Option SpanKind
kind_numbered n =
    if n == 0 then Some kind.Internal
    else if n == 1 then Some kind.Internal
    else if n == 2 then Some kind.Server
    else if n == 3 then Some kind.Client
    else if n == 4 then Some kind.Producer
    else if n == 5 then Some kind.Consumer
    else None

abbrev pub kind_named : List ℕ → Option SpanKind
kind_named name =
    if bytes_eq name (codes "SPAN_KIND_UNSPECIFIED") then Some kind.Internal
    else if bytes_eq name (codes "SPAN_KIND_INTERNAL") then Some kind.Internal
    else if bytes_eq name (codes "SPAN_KIND_SERVER") then Some kind.Server
    else if bytes_eq name (codes "SPAN_KIND_CLIENT") then Some kind.Client
    else if bytes_eq name (codes "SPAN_KIND_PRODUCER") then Some kind.Producer
    else if bytes_eq name (codes "SPAN_KIND_CONSUMER") then Some kind.Consumer
    else None

abbrev pub kind_of : Data → Option SpanKind
kind_of null = None
kind_of (boolean _) = None
kind_of (number n) = option_and_then kind_numbered (as_u64 n)
kind_of (string name) = kind_named name
kind_of (array _) = None
kind_of (object _) = None

abbrev pub HasKind : Data → SpanKind → Type 0
HasKind d k =
    MatchOption (member_of (codes "kind") d) (k ≡ kind.Internal) (λ given. kind_of given ≡ Some k)

-- ---- Span
-- the identity of a span: its context, its parent, and whether the parent is remote
pub record HasIdentity (d : Data) (c : SpanContextRecord) (parent : ℕ) (remote : Bool)
    : Type 0 where
  pub flags : ℕ
  pub has_flags : IsNarrowIn (codes "flags") d flags
  pub context : IsContext d flags false c
  pub parent_id : parent_id_in d ≡ Some parent
  pub parent_is_remote : remote ≡ is_remote flags

-- the name, the kind, the times and the status
pub record HasWork (d : Data) (name : List ℕ) (k : SpanKind) (start end : ℕ) (s : Status)
    : Type 0 where
  pub has_name : text_in (codes "name") d ≡ Some name
  pub has_kind : HasKind d k
  pub has_start : IsWideIn (codes "startTimeUnixNano") d start
  pub has_end : IsWideIn (codes "endTimeUnixNano") d end
  pub has_status : HasStatus d s

-- the events and the number of dropped ones
pub record HasEvents (d : Data) (es : List EventRecord) (dropped : ℕ) : Type 0 where
  pub events : AreIn IsEvent (codes "events") d es
  pub has_dropped : IsNarrowIn (codes "droppedEventsCount") d dropped

-- the links and the number of dropped ones
pub record HasLinks (d : Data) (ls : List LinkRecord) (dropped : ℕ) : Type 0 where
  pub links : AreIn IsLink (codes "links") d ls
  pub has_dropped : IsNarrowIn (codes "droppedLinksCount") d dropped

-- everything but the scope, which is the group's
pub record IsSpan (d : Data) (s : SpanRecord) : Type 0 where
  pub is_object : IsObject d
  pub identity : HasIdentity d s.span_context s.parent_span_id s.parent_span_is_remote
  pub work : HasWork d s.name s.span_kind s.start_time s.end_time s.status
  pub attributes : HasAttributes d s.attributes
  pub dropped : HasDropped d s.dropped_attributes
  pub events : HasEvents d s.events s.dropped_events
  pub links : HasLinks d s.links s.dropped_links

-- ---- TracesData
-- the line is the JSON of these resources with their spans
abbrev pub AreGroupsReadFrom : List ℕ → List (ResourceItems SpanRecord) → Type 0
AreGroupsReadFrom = groups.AreGroupsOf form IsSpan

-- the line is the JSON of these spans
abbrev pub AreReadFrom : List ℕ → List SpanRecord → Type 0
AreReadFrom = groups.AreItemsOf form IsSpan
