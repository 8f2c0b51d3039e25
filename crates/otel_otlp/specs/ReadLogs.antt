-- The messages of log records, read from JSON whoever wrote it [OpenTelemetry protocol, "JSON
-- Protobuf Encoding"; opentelemetry/proto/logs/v1/logs.proto].
use Rattle.std.specs.Prelude.{◌≡◌, ℕ, ◌-◌, ◌==◌, nat_lt, List, [], ◌∷◌, length, take, codes}
use Rattle.std.specs.Prelude.{if◌then◌else◌, position, slice_get, refl}
use Rattle.std.specs.Prelude.{Option, Some, None, is_some, MatchOption, option_map, option_and_then}
use Rattle.std.specs.Option.{unwrap_or}
use Rattle.std.specs.Str.{bytes_eq}
use Rattle.otel_base.specs.AnyValue as any
use Rattle.otel_base.specs.AnyValue.{Tree}
use Rattle.otel_sdk_logs.specs.Attributes.{Attribute, default_limits}
use Rattle.otel_sdk_logs.specs.LogRecord.{LogState, LogEntry}
use Rattle.otel_sdk_logs.specs.declared.record.TraceContext.{TraceContext}
use Rattle.otel_otlp.specs.Logs.{form, is_target}
use Rattle.otel_otlp.specs.ReadGroups as groups
use Rattle.otel_otlp.specs.ReadGroups.{ResourceItems}
use Rattle.otel_otlp.specs.ReadMembers.{IsObject, member_of, given_text_in, IsNarrowIn}
use Rattle.otel_otlp.specs.ReadMembers.{IsGivenWideIn, IsGivenNarrowIn, given_trace_id_in}
use Rattle.otel_otlp.specs.ReadMembers.{given_span_id_in}
use Rattle.otel_otlp.specs.ReadTraces.{trace_flags}
use Rattle.otel_otlp.specs.ReadTrees.{HasAttributes, HasBody}
use Rattle.serde_json.specs.Data.{Data, null, boolean, number, string, array, object}
use Rattle.serde_json.specs.Find.{as_u64}

-- ---- SeverityNumber
-- the names, each at the place of its number
abbrev pub severities : List (List ℕ)
severities =
    codes "SEVERITY_NUMBER_UNSPECIFIED"
    ∷ codes "SEVERITY_NUMBER_TRACE"
    ∷ codes "SEVERITY_NUMBER_TRACE2"
    ∷ codes "SEVERITY_NUMBER_TRACE3"
    ∷ codes "SEVERITY_NUMBER_TRACE4"
    ∷ codes "SEVERITY_NUMBER_DEBUG"
    ∷ codes "SEVERITY_NUMBER_DEBUG2"
    ∷ codes "SEVERITY_NUMBER_DEBUG3"
    ∷ codes "SEVERITY_NUMBER_DEBUG4"
    ∷ codes "SEVERITY_NUMBER_INFO"
    ∷ codes "SEVERITY_NUMBER_INFO2"
    ∷ codes "SEVERITY_NUMBER_INFO3"
    ∷ codes "SEVERITY_NUMBER_INFO4"
    ∷ codes "SEVERITY_NUMBER_WARN"
    ∷ codes "SEVERITY_NUMBER_WARN2"
    ∷ codes "SEVERITY_NUMBER_WARN3"
    ∷ codes "SEVERITY_NUMBER_WARN4"
    ∷ codes "SEVERITY_NUMBER_ERROR"
    ∷ codes "SEVERITY_NUMBER_ERROR2"
    ∷ codes "SEVERITY_NUMBER_ERROR3"
    ∷ codes "SEVERITY_NUMBER_ERROR4"
    ∷ codes "SEVERITY_NUMBER_FATAL"
    ∷ codes "SEVERITY_NUMBER_FATAL2"
    ∷ codes "SEVERITY_NUMBER_FATAL3"
    ∷ codes "SEVERITY_NUMBER_FATAL4"
    ∷ []

-- from 1 for `TRACE` to 24 for `FATAL4`
abbrev pub severity_with : ℕ → Option ℕ
severity_with n = if nat_lt 0 n then (if nat_lt n 25 then Some n else None) else None

-- an unspecified severity is none
unfoldable pub severity_numbered : ℕ → Option (Option ℕ)
severity_numbered n =
    if n == 0 then Some None else option_map (λ severity. Some severity) (severity_with n)

unfoldable pub severity_named : List ℕ → Option ℕ
severity_named name = position (λ known. bytes_eq known name) severities

abbrev pub severity_number : Data → Option ℕ
severity_number null = None
severity_number (boolean _) = None
severity_number (number n) = as_u64 n
severity_number (string name) = severity_named name
severity_number (array _) = None
severity_number (object _) = None

-- an enumeration is a number or a name
abbrev pub severity_of : Data → Option (Option ℕ)
severity_of d = option_and_then severity_numbered (severity_number d)

abbrev pub HasSeverity : Data → Option ℕ → Type 0
HasSeverity d severity =
    MatchOption (member_of (codes "severityNumber") d) (severity ≡ None)
    (λ given. severity_of given ≡ Some severity)

-- ---- the span that was active
-- an id that is absent beside the other is 0
abbrev pub with_ids : Option ℕ → Option ℕ → Option ℕ → TraceContext
with_ids trace span flags = record {
  trace_id = unwrap_or trace 0;
  span_id = unwrap_or span 0;
  trace_flags = option_map trace_flags flags;
}

-- without ids there is none
abbrev pub active_of : Option ℕ → Option ℕ → Option ℕ → Option TraceContext
active_of None None flags = None
active_of None (Some span) flags = Some (with_ids None (Some span) flags)
active_of (Some trace) span flags = Some (with_ids (Some trace) span flags)

pub record HasActive (d : Data) (active : Option TraceContext) : Type 0 where
  pub trace : Option ℕ
  pub has_trace : given_trace_id_in d ≡ Some trace
  pub span : Option ℕ
  pub has_span : given_span_id_in d ≡ Some span
  pub flags : Option ℕ
  pub has_flags : IsGivenNarrowIn (codes "flags") d flags
  pub is : active ≡ active_of trace span flags

-- ---- the attributes and the target
abbrev text_of : Tree → Option (List ℕ)
text_of (any.integer _) = None
text_of (any.text text) = Some text
text_of (any.boolean _) = None
text_of (any.bytes _) = None
text_of (any.list _) = None
text_of (any.map _) = None

-- the text of an attribute `log.target`
abbrev pub target_of : Attribute → Option (List ℕ)
target_of a = if is_target a then text_of a.1 else None

-- the target, which is the last attribute
abbrev pub target_among : List Attribute → Option (List ℕ)
target_among xs = option_and_then target_of (slice_get xs (length xs - 1))

-- the other attributes
abbrev pub without_target : List Attribute → Option (List ℕ) → List Attribute
without_target xs target = if is_some target then take (length xs - 1) xs else xs

-- the attributes, the target, and the number of attributes that were dropped
pub record HasDetails (d : Data) (xs : List Attribute) (target : Option (List ℕ)) (dropped : ℕ)
    : Type 0 where
  pub given : List Attribute
  pub has_given : HasAttributes d given
  pub has_target : target ≡ target_among given
  pub attributes : xs ≡ without_target given target
  pub has_dropped : IsNarrowIn (codes "droppedAttributesCount") d dropped

-- ---- LogRecord
-- the times and the severity
pub record HasMoment (d : Data) (happened observed severity : Option ℕ) : Type 0 where
  pub has_happened : IsGivenWideIn (codes "timeUnixNano") d happened
  pub has_observed : IsGivenWideIn (codes "observedTimeUnixNano") d observed
  pub has_severity : HasSeverity d severity

-- the text of the severity, the name of the event and the body
pub record HasWords (d : Data) (severity name : Option (List ℕ)) (body : Option Tree)
    : Type 0 where
  pub has_severity : given_text_in (codes "severityText") d ≡ Some severity
  pub has_name : given_text_in (codes "eventName") d ≡ Some name
  pub has_body : HasBody d body

-- the limits on attributes aren't in the protocol, so the record has the default ones
pub record IsRecord (d : Data) (r : LogState) : Type 0 where
  pub is_object : IsObject d
  pub moment : HasMoment d r.timestamp r.observed_timestamp r.severity_number
  pub words : HasWords d r.severity_text r.event_name r.body
  pub details : HasDetails d r.attributes r.target r.dropped_attributes
  pub active : HasActive d r.trace_context
  pub limits : r.limits ≡ default_limits

-- everything but the scope, which is the group's
abbrev pub IsEntry : Data → LogEntry → Type 0
IsEntry d e = IsRecord d e.log

-- ---- LogsData
-- the line is the JSON of these resources with their records
abbrev pub AreGroupsReadFrom : List ℕ → List (ResourceItems LogEntry) → Type 0
AreGroupsReadFrom = groups.AreGroupsOf form IsEntry

-- the line is the JSON of these records
abbrev pub AreReadFrom : List ℕ → List LogEntry → Type 0
AreReadFrom = groups.AreItemsOf form IsEntry

-- ---- worked rows
named_example : severity_named (codes "SEVERITY_NUMBER_FATAL4") ≡ Some 24
unfolding severity_named
named_example = refl

unspecified_example : severity_named (codes "SEVERITY_NUMBER_UNSPECIFIED") ≡ Some 0
unfolding severity_named
unspecified_example = refl

other_target_example :
    target_among ((codes "log.target", any.text (codes "t")) ∷ (codes "a", any.text []) ∷ []) ≡ None
other_target_example = refl
