-- The messages of log records [opentelemetry/proto/logs/v1/logs.proto].
use Rattle.std.specs.Prelude.{◌≡◌, ℕ, ◌+◌, List, [], ◌∷◌, ◌++◌, map, codes, Option, Some, None}
use Rattle.std.specs.Prelude.{if◌then◌else◌, refl, Bool, true}
use Rattle.std.specs.List.{list_any}
use Rattle.std.specs.Str.{bytes_eq}
use Rattle.otel_base.specs.AnyValue as any
use Rattle.otel_base.specs.AnyValue.{Tree}
use Rattle.otel_base.specs.InstrumentationScope.{Scope}
use Rattle.otel_sdk_base.specs.Attributes.{up_by}
use Rattle.otel_sdk_logs.specs.Attributes.{Attribute}
use Rattle.otel_sdk_logs.specs.LogRecord.{LogState, LogEntry, empty}
use Rattle.otel_sdk_logs.specs.declared.record.TraceContext.{TraceContext}
use Rattle.otel_sdk_base.specs.Resource.{Parts}
use Rattle.serde_json.specs.Data.{Data}
use Rattle.otel_otlp.specs.Common.{pair, tree_value}
use Rattle.otel_otlp.specs.Groups as groups
use Rattle.otel_otlp.specs.Groups.{BatchForm}
use Rattle.otel_otlp.specs.Json.{Member, object_of, text_member, text_if_given}
use Rattle.otel_otlp.specs.Json.{decimal_member, number_if_given, decimal_if_given}
use Rattle.otel_otlp.specs.Json.{number_unless_zero, list_unless_empty}
use Rattle.otel_otlp.specs.Json.{trace_id_text, span_id_text}
use Rattle.otel_otlp.specs.Trees.{max_levels, cut, cut_parts_of_body, cut_parts_of_attributes}

-- ---- LogRecord
-- the times at which the event happened and was observed
abbrev pub times : LogState → List Member
times l =
    decimal_if_given (codes "timeUnixNano") l.timestamp
    ++ decimal_if_given (codes "observedTimeUnixNano") l.observed_timestamp

-- the member `body`, left out if there is none; its lists and maps within `max_levels` others are
-- cut
abbrev pub body_member : Option Tree → List Member
body_member None = []
body_member (Some body) = (codes "body", tree_value (cut max_levels body)) ∷ []

-- the content of the record; a severity is its number, from 1 for `TRACE` to 24 for `FATAL4`
abbrev pub content : LogState → List Member
content l =
    number_if_given (codes "severityNumber") l.severity_number
    ++ text_if_given (codes "severityText") l.severity_text
    ++ text_if_given (codes "eventName") l.event_name
    ++ body_member l.body

-- an attribute, cut as a body is
abbrev pub attribute : Attribute → Data
attribute a = pair a.0 (tree_value (cut max_levels a.1))

-- whether the attribute has the key `log.target`
abbrev pub is_target : Attribute → Bool
is_target a = bytes_eq a.0 (codes "log.target")

-- the target as an attribute, unless one of these has its key; the protocol has no member for it
-- (own)
abbrev pub target_attribute : List Attribute → Option (List ℕ) → List Attribute
target_attribute held None = []
target_attribute held (Some target) =
    if list_any is_target held then [] else (codes "log.target", any.text target) ∷ []

-- the attributes, with the target last
abbrev pub attributes : LogState → List Attribute
attributes l = l.attributes ++ target_attribute l.attributes l.target

-- the number of attributes that were dropped because of the limit, plus the number of parts of the
-- attributes and the body that are cut, saturating
abbrev pub dropped : LogState → ℕ
dropped l =
    up_by l.dropped_attributes (cut_parts_of_attributes l.attributes + cut_parts_of_body l.body)

-- the attributes, and the number of attributes that were dropped and parts that are cut
abbrev pub details : LogState → List Member
details l =
    list_unless_empty (codes "attributes") (map attribute (attributes l))
    ++ number_unless_zero (codes "droppedAttributesCount") (dropped l)

-- the span that was active; bits 0 to 7 of the flags are the trace flags
abbrev pub trace_members : Option TraceContext → List Member
trace_members None = []
trace_members (Some c) =
    text_member (codes "traceId") (trace_id_text c.trace_id)
    ++ text_member (codes "spanId") (span_id_text c.span_id)
    ++ number_if_given (codes "flags") c.trace_flags

abbrev pub log_record : LogState → Data
log_record l = object_of (times l ++ content l ++ details l ++ trace_members l.trace_context)

-- ---- LogsData
abbrev pub scope_of : LogEntry → Scope
scope_of e = e.scope

abbrev pub value_of : LogEntry → Data
value_of e = log_record e.log

-- the form of a batch of log records
abbrev pub form : BatchForm LogEntry
form = record {
  scope_of = scope_of;
  value_of = value_of;
  resources = codes "resourceLogs";
  scopes = codes "scopeLogs";
  items = codes "logRecords";
}

-- a batch of log records of one resource, as one object: the scopes in the order in which they
-- first appear, each with its records in order
abbrev pub logs_data : Parts → List LogEntry → Data
logs_data = groups.batch_value form

-- ---- worked rows
-- a record with only an observed time
observed_example :
    log_record (record empty { observed_timestamp = Some 5 })
    ≡ object_of (decimal_member (codes "observedTimeUnixNano") 5)
observed_example = refl

-- a target goes last, unless its key is present
target_example : attributes (record empty { target = Some (codes "t") })
    ≡ (codes "log.target", any.text (codes "t")) ∷ []
target_example = refl

given_target_example :
    attributes (record empty {
      target = Some (codes "t");
      attributes = (codes "log.target", any.boolean true) ∷ [];
    })
    ≡ (codes "log.target", any.boolean true) ∷ []
given_target_example = refl
