-- The log record that a logger gets for a record of the crate `log`.
use Rattle.std.specs.Prelude.{◌≡◌, ◌⊎◌, ℕ, List, Bool, true, false, Option, Some, None, IfSome}
use Rattle.std.specs.Prelude.{Result, IfOk}
use Rattle.log.specs.declared.record.Metadata.{Metadata}
use Rattle.log.specs.declared.record.Record.{Record}
use Rattle.log.specs.Kv.{Pair}
use Rattle.log.specs.Record.{metadata_level, metadata_target, record_metadata, record_args}
use Rattle.log.specs.Record.{record_key_values}
use Rattle.otel_ids.specs.SpanContext.{SpanContextRecord, IsValidSpanContext}
use Rattle.otel_base.specs.AnyValue.{Tree, text}
use Rattle.otel_base.specs.Severity.{name}
use Rattle.otel_base.specs.declared.severity.Severity.{Severity}
use Rattle.otel_context.specs.Context.{is_telemetry_suppressed, span_context}
use Rattle.opentelemetry.specs.declared.logs.logger.Logger.{Ghosts as Logging}
use Rattle.opentelemetry.specs.declared.logs.record.LogRecord.{Ghosts}
use Rattle.otel_appender_log.specs.declared.attributes.SourceLocation.{SourceLocation}
use Rattle.otel_appender_log.specs.declared.bridge.BridgeSink.{BridgeSink}
use Rattle.otel_appender_log.specs.Attributes.{Attribute}
use Rattle.otel_appender_log.specs.Location.{IsLocated}
use Rattle.otel_appender_log.specs.Severity.{severity_of}

-- the effects of the setters of a log record
pub record Setters (R : Type 0) : Type 0 where
  pub number : R → Severity → R
  pub name : R → List ℕ → R
  pub body : R → Tree → R
  pub target : R → List ℕ → R
  pub attributes : R → List Attribute → R

-- the setters that a type of log records defines
abbrev pub setters : {R : Type 0} → Ghosts R → Setters R
setters named = record {
  number = named.after_severity_number;
  name = named.after_severity_text;
  body = named.after_body;
  target = named.after_target;
  attributes = named.after_attributes;
}

-- a record of the crate `log`: its level and target, the text of its message as written by `{}`,
-- its pairs, and its source location, as far as they are known
pub record Source : Type 0 where
  pub metadata : Metadata
  pub message : Option (List ℕ)
  pub pairs : Option (List Pair)
  pub location : SourceLocation

-- a logger may answer that records with this level and target are enabled, or that they aren't
abbrev pub MayEnableFor : (Severity → List ℕ → Option (List ℕ) → Bool → Type 0) → Metadata → Bool
    → Type 0
MayEnableFor may_enable m enabled =
    may_enable (severity_of (metadata_level m)) (metadata_target m) None enabled

module _ {D K S : Type 0} where
  -- the record of the crate `log` with this location; `output` returns the text that `{}` writes
  -- for a message, `pairs` the pairs of a source of pairs
  abbrev pub source_of : (D → Option (List ℕ)) → (K → Option (List Pair)) → Record D K S
      → SourceLocation → Source
  source_of output pairs r location = record {
    metadata = record_metadata r;
    message = output (record_args r);
    pairs = pairs (record_key_values r);
    location = location;
  }

  -- the same for the record's level and target
  abbrev pub MayEnable : (Severity → List ℕ → Option (List ℕ) → Bool → Type 0) → Record D K S
      → Bool → Type 0
  MayEnable may_enable r enabled = MayEnableFor may_enable (record_metadata r) enabled

-- the record with this severity, as a number and by its name, this body, target and attributes
abbrev pub with_content : {R : Type 0} → Setters R → R → Severity → List ℕ → List ℕ
    → List Attribute → R
with_content set blank severity body target attributes =
    let named = set.name (set.number blank severity) (name severity) in
    set.attributes (set.target (set.body named (text body)) target) attributes

-- `filled` is `blank` with the content of the source
pub record IsFilled {R : Type 0} (set : Setters R) (source : Source) (blank filled : R)
    : Type 0 where
  pub body : List ℕ
  pub attributes : List Attribute
  pub is_message : IfSome source.message (λ message. body ≡ message)
  pub located : IsLocated source.pairs source.location attributes
  pub is : filled ≡ with_content set blank (severity_of (metadata_level source.metadata)) body
      (metadata_target source.metadata) attributes

-- `stamped` is the record with the ids and flags of the span context, if that is valid, otherwise
-- the record itself. Whether the span is sampled, and where it is from, doesn't matter.
pub record IsStamped {R : Type 0} (MayBeTraced : R → ℕ → ℕ → Option ℕ → R → Type 0)
    (span : SpanContextRecord) (plain stamped : R) : Type 0 where
  pub traced : IsValidSpanContext span
      → MayBeTraced plain span.trace_id span.span_id (Some span.trace_flags) stamped
  pub untraced : (IsValidSpanContext span → ⊥) → stamped ≡ plain

-- A record that the logger made, filled from the source and then stamped with the span context.
-- `MayBeStamped` relates a record to the possible results of setting its span.
pub record IsBridged {R : Type 0} (MayCreate : R → Type 0) (named : Ghosts R)
    (MayBeStamped : R → ℕ → ℕ → Option ℕ → R → Type 0) (source : Source)
    (span : SpanContextRecord) (bridged : R) : Type 0 where
  pub blank : R
  pub filled : R
  pub may_create : MayCreate blank
  pub is_filled : IsFilled (setters named) source blank filled
  pub is_stamped : IsStamped MayBeStamped span filled bridged

-- The fate of a record of the crate `log`: the logger doesn't accept such records, or its log
-- record was emitted, or it was counted.
abbrev pub IsLogged : {R : Type 0} → (Bool → Type 0) → (R → Type 0) → (R → Type 0) → Type 0
    → Type 0
IsLogged may_enable is_bridged is_emitted is_counted = may_enable false
    ⊎ (may_enable true × (((made : _) × is_bridged made × is_emitted made) ⊎ is_counted))

-- a value was made, or none, and one that was made is so
abbrev pub IfMade : {E R : Type 0} → Result (Option R) E → (R → Type 0) → Type 0
IfMade result P = IfOk result (λ made. IfSome made P)

-- Records of the crate `log`: `output` returns the text that `{}` writes for a message, `pairs` the
-- pairs of a source of pairs. `Stamps` relates a record to the possible results of setting its
-- span.
module _ {R D K S : Type 0} where
  -- a record that the logger made from a record of the crate `log` with this location, stamped with
  -- the span context
  abbrev pub IsBridgedFrom : (R → Type 0) → Ghosts R → (R → ℕ → ℕ → Option ℕ → R → Type 0)
      → (D → Option (List ℕ)) → (K → Option (List Pair)) → Record D K S → SourceLocation
      → SpanContextRecord → R → Type 0
  IsBridgedFrom MayCreate named Stamps output pairs r location span =
      IsBridged MayCreate named Stamps (source_of output pairs r location) span

  -- the same with the logger, the location and the active span of a sink
  abbrev pub IsBridgedBy : {L : Type 0} → (L → R → Type 0) → Ghosts R
      → (R → ℕ → ℕ → Option ℕ → R → Type 0) → (D → Option (List ℕ)) → (K → Option (List Pair))
      → BridgeSink L → Record D K S → R → Type 0
  IsBridgedBy may_create named Stamps output pairs sink r =
      IsBridgedFrom (may_create sink.bridge.now.logger) named Stamps output pairs r
      sink.location (span_context sink.context.now)

  -- the fate of a record of the crate `log` at a sink, if telemetry isn't suppressed in its context
  abbrev pub IsLoggedBy : {L : Type 0} → Logging L R → (L → R → Type 0) → Type 0 → Ghosts R
      → (R → ℕ → ℕ → Option ℕ → R → Type 0) → (D → Option (List ℕ)) → (K → Option (List Pair))
      → BridgeSink L → Record D K S → Type 0
  IsLoggedBy logging emits counts named Stamps output pairs sink r =
      is_telemetry_suppressed sink.context.now ≡ false
      → IsLogged (MayEnable (logging.may_enable sink.bridge.now.logger) r)
      (IsBridgedBy logging.may_create named Stamps output pairs sink r)
      (emits sink.bridge.now.logger) counts
