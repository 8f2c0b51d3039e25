-- The parts of a log record of the SDK, and the effects of calls.
use Rattle.std.specs.Prelude.{◌≡◌, ℕ, Bool, List, [], Option, Some, None, IsTrue, is_some, refl}
use Rattle.std.specs.Option.{unwrap_or}
use Rattle.std.specs.Coded.{Coded, code_by, coded×, coded_ℕ, coded_list, coded_option}
use Rattle.otel_base.specs.AnyValue.{Tree}
use Rattle.otel_base.specs.InstrumentationScope.{Scope}
use Rattle.otel_base.specs.View.{tree_code}
use Rattle.otel_ids.specs.SpanContext.{SpanContextRecord, IsValidSpanContext}
use Rattle.otel_sdk_logs.specs.Attributes.{Held, default_limits, with_one_within}
use Rattle.otel_sdk_logs.specs.Attributes.{with_all_within}
use Rattle.otel_sdk_logs.specs.declared.limits.LogRecordLimits.{LogRecordLimits}
use Rattle.otel_sdk_logs.specs.declared.record.TraceContext.{TraceContext}

-- A log record: the event's name, the target, the times at which the event happened and was
-- observed, the severity as a text and as a number, the body, the attributes in order, the number
-- of dropped attributes, the limits on them, and the span that was active (OpenTelemetry logs data
-- model).
pub record LogState : Type 0 where
  pub event_name : Option (List ℕ)
  pub target : Option (List ℕ)
  pub timestamp : Option ℕ
  pub observed_timestamp : Option ℕ
  pub severity_text : Option (List ℕ)
  pub severity_number : Option ℕ
  pub body : Option Tree
  pub attributes : List (List ℕ × Tree)
  pub dropped_attributes : ℕ
  pub limits : LogRecordLimits
  pub trace_context : Option TraceContext

-- A log record with the scope of its logger.
pub record LogEntry : Type 0 where
  pub log : LogState
  pub scope : Scope

-- a record with nothing set and the default limits
abbrev pub empty : LogState
empty = record {
  event_name = None;
  target = None;
  timestamp = None;
  observed_timestamp = None;
  severity_text = None;
  severity_number = None;
  body = None;
  attributes = [];
  dropped_attributes = 0;
  limits = default_limits;
  trace_context = None;
}

-- a record with nothing set and these limits
abbrev pub empty_within : LogRecordLimits → LogState
empty_within limits = record empty { limits = limits }

-- the attributes of the record, with the number of dropped attributes
abbrev pub held_by : LogState → Held
held_by log = record { attributes = log.attributes; dropped = log.dropped_attributes }

-- the same record with these attributes and this count
abbrev pub holding : LogState → Held → LogState
holding log held =
    record log { attributes = held.attributes; dropped_attributes = held.dropped }

-- the same record after the attribute is set
abbrev pub with_attribute : LogState → List ℕ → Tree → LogState
with_attribute log key value =
    holding log (with_one_within log.limits (held_by log) (key, value))

-- the same record after each of the attributes is set in turn
abbrev pub with_attributes : LogState → List (List ℕ × Tree) → LogState
with_attributes log given = holding log (with_all_within log.limits (held_by log) given)

-- the same record with this span as the active one
abbrev pub with_trace_context : LogState → ℕ → ℕ → Option ℕ → LogState
with_trace_context log trace_id span_id trace_flags = record log {
  trace_context = Some (record {
    trace_id = trace_id;
    span_id = span_id;
    trace_flags = trace_flags;
  });
}

-- the same record with that observed time, unless it already has one
abbrev pub observed : ℕ → LogState → LogState
observed now log = record log {
  observed_timestamp = Some (unwrap_or log.observed_timestamp now);
}

-- A logger: the scope and the limits that its records get, and whether it emits nothing.
pub record LoggerParts : Type 0 where
  pub scope : Scope
  pub limits : LogRecordLimits
  pub is_disabled : Bool

-- The entry is made from the record and the scope. A record without an observed time gets one that
-- the clock showed.
abbrev pub IsEmitted : (ℕ → Type 0) → LogState → Scope → LogEntry → Type 0
IsEmitted may_show log scope entry = (now : ℕ) × (log.observed_timestamp ≡ None → may_show now)
    × (entry ≡ record { log = observed now log; scope = scope })

-- `emitted` is the record with the ids and flags of the span context, if that is valid and the
-- record has no span yet, otherwise the record itself (the Rust crate's `SdkLogger::emit`)
pub record IsInSpan (span : SpanContextRecord) (log emitted : LogState) : Type 0 where
  pub kept : IsTrue (is_some log.trace_context) → emitted ≡ log
  pub invalid : (IsValidSpanContext span → ⊥) → emitted ≡ log
  pub named : log.trace_context ≡ None → IsValidSpanContext span
      → emitted ≡ with_trace_context log span.trace_id span.span_id (Some span.trace_flags)

-- ---- an encoding of records, with which proofs tell them apart
abbrev texts_code : Coded (Option (List ℕ))
texts_code = coded_option (coded_list coded_ℕ)

abbrev number_code : Coded (Option ℕ)
number_code = coded_option coded_ℕ

abbrev trace_context_code : Coded TraceContext
trace_context_code = code_by (ℕ × (ℕ × Option ℕ))
    (coded× coded_ℕ (coded× coded_ℕ number_code))
    (λ c. (c.trace_id, (c.span_id, c.trace_flags)))
    (λ p. record { trace_id = p.0; span_id = p.1.0; trace_flags = p.1.1 }) (λ _. refl)

abbrev limits_code : Coded LogRecordLimits
limits_code = code_by (ℕ × Option ℕ) (coded× coded_ℕ number_code)
    (λ l. (l.max_attributes_per_record, l.max_attribute_length))
    (λ p. record { max_attributes_per_record = p.0; max_attribute_length = p.1 }) (λ _. refl)

abbrev pub log_state_code : Coded LogState
log_state_code =
    code_by (Option (List ℕ) × (Option (List ℕ) × (Option ℕ × (Option ℕ × (Option (List ℕ)
    × (Option ℕ × (Option Tree × (List (List ℕ × Tree)
    × (ℕ × (LogRecordLimits × Option TraceContext))))))))))
    (coded× texts_code (coded× texts_code (coded× number_code (coded× number_code
    (coded× texts_code (coded× number_code (coded× (coded_option tree_code)
    (coded× (coded_list (coded× (coded_list coded_ℕ) tree_code))
    (coded× coded_ℕ (coded× limits_code (coded_option trace_context_code)))))))))))
    (λ r. (
      r.event_name,
      (
        r.target,
        (
          r.timestamp,
          (
            r.observed_timestamp,
            (
              r.severity_text,
              (
                r.severity_number,
                (r.body, (r.attributes, (r.dropped_attributes, (r.limits, r.trace_context)))),
              ),
            ),
          ),
        ),
      ),
    ))
    (λ p. record {
      event_name = p.0;
      target = p.1.0;
      timestamp = p.1.1.0;
      observed_timestamp = p.1.1.1.0;
      severity_text = p.1.1.1.1.0;
      severity_number = p.1.1.1.1.1.0;
      body = p.1.1.1.1.1.1.0;
      attributes = p.1.1.1.1.1.1.1.0;
      dropped_attributes = p.1.1.1.1.1.1.1.1.0;
      limits = p.1.1.1.1.1.1.1.1.1.0;
      trace_context = p.1.1.1.1.1.1.1.1.1.1;
    }) (λ _. refl)
