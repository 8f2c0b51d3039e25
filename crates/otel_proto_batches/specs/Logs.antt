-- The messages of log records [opentelemetry/proto/logs/v1/logs.proto].
use Rattle.std.specs.Prelude.{◌≡◌, ℕ, ◌+◌, List, [], ◌∷◌, ◌++◌, codes, Option, Some, None}
use Rattle.std.specs.Prelude.{if◌then◌else◌, refl, Bool, true}
use Rattle.std.specs.List.{list_any}
use Rattle.std.specs.Str.{bytes_eq}
use Rattle.otel_base.specs.AnyValue as any
use Rattle.otel_base.specs.AnyValue.{Tree, no_entries, more_entries}
use Rattle.otel_base.specs.InstrumentationScope.{Scope}
use Rattle.otel_sdk_base.specs.Attributes.{up_by}
use Rattle.otel_sdk_base.specs.Resource.{Parts}
use Rattle.otel_sdk_logs.specs.Attributes.{Attribute}
use Rattle.otel_sdk_logs.specs.LogRecord.{LogState, LogEntry, empty}
use Rattle.otel_sdk_logs.specs.declared.record.TraceContext.{TraceContext}
use Rattle.otel_proto.specs.Common.{pair}
use Rattle.otel_proto.specs.Trees.{cut_value}
use Rattle.otel_proto.specs.Wire.{Field}
use Rattle.otel_proto.specs.Written.{message, messages, number_unless_zero, fixed32_unless_zero}
use Rattle.otel_proto.specs.Written.{fixed64_unless_zero, bytes_of, varint_bytes}
use Rattle.otel_proto_batches.specs.Common.{trace_id, span_id, text_if_given}
use Rattle.otel_proto_batches.specs.Cuts.{cut_parts_of_body, cut_parts_of_attributes}
use Rattle.otel_proto_batches.specs.Groups as groups
use Rattle.otel_proto_batches.specs.Groups.{Form}

-- ---- one field
-- a time, left out if there is none, or if it is 0
abbrev pub time_if_given : ℕ → Option ℕ → List Field
time_if_given number None = []
time_if_given number (Some time) = fixed64_unless_zero number time

-- a severity is its number, from 1 for `TRACE` to 24 for `FATAL4`
abbrev pub severity : Option ℕ → List Field
severity None = []
severity (Some n) = number_unless_zero 2 n

-- left out if there is none, but not if it is empty
abbrev pub body : Option Tree → List Field
body None = []
body (Some t) = message 5 (cut_value t) ∷ []

-- bits 0 to 7 are the trace flags
abbrev pub flags : Option ℕ → List Field
flags None = []
flags (Some bits) = fixed32_unless_zero 8 bits

-- ---- LogRecord
-- the content of the record
abbrev pub content : LogState → List Field
content l =
    time_if_given 1 l.timestamp
    ++ (severity l.severity_number
    ++ (text_if_given 3 l.severity_text
    ++ body l.body))

-- an attribute, cut as a body is
abbrev pub attribute : Attribute → List Field
attribute a = pair a.0 (cut_value a.1)

-- whether the attribute has the key `log.target`
abbrev pub is_target : Attribute → Bool
is_target a = bytes_eq a.0 (codes "log.target")

-- the target as an attribute, unless one of these has its key; the protocol has no field for it
-- (own)
abbrev pub target_attribute : List Attribute → Option (List ℕ) → List Attribute
target_attribute held None = []
target_attribute held (Some target) =
    if list_any is_target held then [] else (codes "log.target", any.text target) ∷ []

-- the attributes, with the target last
abbrev pub attributes : LogState → List Attribute
attributes l = l.attributes ++ target_attribute l.attributes l.target

-- the number of attributes that were dropped because of the limit, plus the number of parts of the
-- attributes and the body that are cut, saturating
abbrev pub dropped : LogState → ℕ
dropped l =
    up_by l.dropped_attributes (cut_parts_of_attributes l.attributes + cut_parts_of_body l.body)

-- the attributes, and the number of attributes that were dropped and parts that are cut
abbrev pub details : LogState → List Field
details l = messages 6 attribute (attributes l) ++ number_unless_zero 7 (dropped l)

-- the span that was active
abbrev pub context : TraceContext → List Field
context c = flags c.trace_flags ++ trace_id 9 c.trace_id ∷ span_id 10 c.span_id ∷ []

-- a record outside of a span has neither flags nor ids
abbrev pub trace : Option TraceContext → List Field
trace None = []
trace (Some c) = context c

-- the time at which the event was observed, and its name
abbrev pub origin : LogState → List Field
origin l = time_if_given 11 l.observed_timestamp ++ text_if_given 12 l.event_name

abbrev pub log_record : LogState → List Field
log_record l = content l ++ (details l ++ (trace l.trace_context ++ origin l))

-- ---- ExportLogsServiceRequest
abbrev pub scope_of : LogEntry → Scope
scope_of e = e.scope

abbrev pub fields_of : LogEntry → List Field
fields_of e = log_record e.log

-- the form of a batch of log records
abbrev pub form : Form LogEntry
form = record { scope_of = scope_of; fields_of = fields_of }

-- a batch of log records of one resource: the scopes in the order in which they first appear, each
-- with its records in order
abbrev pub request : Parts → List LogEntry → List Field
request = groups.request form

-- ---- worked rows
-- severity 9 as `INFO`, a map as the body, a target, the two times and the name of the event
record_example :
    bytes_of (log_record (record empty {
      timestamp = Some 1;
      severity_number = Some 9;
      severity_text = Some (codes "INFO");
      body = Some (any.map (more_entries (codes "a") (any.boolean true) no_entries));
      target = Some (codes "t");
      observed_timestamp = Some 2;
      event_name = Some (codes "ev");
    }))
    ≡ 9 ∷ 1 ∷ 0 ∷ 0 ∷ 0 ∷ 0 ∷ 0 ∷ 0 ∷ 0 ∷ 0x10 ∷ 9 ∷ 0x1a ∷ 4 ∷ 0x49 ∷ 0x4e ∷ 0x46 ∷ 0x4f
    ∷ 0x2a ∷ 0x0b ∷ 0x32 ∷ 9 ∷ 0x0a ∷ 7 ∷ 0x0a ∷ 1 ∷ 0x61 ∷ 0x12 ∷ 2 ∷ 0x10 ∷ 1
    ∷ 0x32 ∷ 0x11 ∷ 0x0a ∷ 0x0a ∷ 0x6c ∷ 0x6f ∷ 0x67 ∷ 0x2e ∷ 0x74 ∷ 0x61 ∷ 0x72 ∷ 0x67 ∷ 0x65 ∷ 0x74
    ∷ 0x12 ∷ 3 ∷ 0x0a ∷ 1 ∷ 0x74 ∷ 0x59 ∷ 2 ∷ 0 ∷ 0 ∷ 0 ∷ 0 ∷ 0 ∷ 0 ∷ 0 ∷ 0x62 ∷ 2 ∷ 0x65 ∷ 0x76 ∷ []
unfolding varint_bytes bytes_of
record_example = refl

-- the flags of a span that was active, under its ids
flags_example : bytes_of (flags (Some 1)) ≡ 0x45 ∷ 1 ∷ 0 ∷ 0 ∷ 0 ∷ []
unfolding varint_bytes bytes_of
flags_example = refl

-- an empty string is a body
empty_body_example : bytes_of (body (Some (any.text []))) ≡ 0x2a ∷ 2 ∷ 0x0a ∷ 0 ∷ []
unfolding varint_bytes bytes_of
empty_body_example = refl

given_target_example :
    attributes (record empty {
      target = Some (codes "t");
      attributes = (codes "log.target", any.boolean true) ∷ [];
    })
    ≡ (codes "log.target", any.boolean true) ∷ []
given_target_example = refl
