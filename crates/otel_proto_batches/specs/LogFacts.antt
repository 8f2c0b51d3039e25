-- The facts about a log record that its bytes show.
use Rattle.std.specs.Prelude.{ℕ, List, map, Option, Some, None, option_map}
use Rattle.otel_base.specs.AnyValue.{Tree}
use Rattle.otel_sdk_logs.specs.Attributes.{Attribute}
use Rattle.otel_sdk_logs.specs.LogRecord.{LogEntry}
use Rattle.otel_sdk_logs.specs.declared.record.TraceContext.{TraceContext}
use Rattle.otel_proto.specs.Trees.{cut, max_levels}
use Rattle.otel_proto_batches.specs.Facts.{told_text}
use Rattle.otel_proto_batches.specs.Logs.{attributes, dropped}

-- none is the same as 0
abbrev pub told_number : Option ℕ → ℕ
told_number None = 0
told_number (Some n) = n

-- the tree that is written
abbrev pub told_tree : Tree → Tree
told_tree = cut max_levels

-- the key, and the value that is written
abbrev pub told_pair : Attribute → Attribute
told_pair a = (a.0, told_tree a.1)

-- the ids and the flags of the span that was active
pub record TraceFacts : Type 0 where
  pub trace_id : ℕ
  pub span_id : ℕ
  pub trace_flags : ℕ

abbrev pub trace_facts : TraceContext → TraceFacts
trace_facts c = record {
  trace_id = c.trace_id;
  span_id = c.span_id;
  trace_flags = told_number c.trace_flags;
}

-- all but the limits on attributes, and the scope; the attributes are those with the target last,
-- and the number of dropped ones has the number of parts that are cut
pub record RecordFacts : Type 0 where
  pub timestamp : ℕ
  pub observed_timestamp : ℕ
  pub severity_number : ℕ
  pub severity_text : List ℕ
  pub event_name : List ℕ
  pub body : Option Tree
  pub attributes : List Attribute
  pub dropped_attributes : ℕ
  pub context : Option TraceFacts

abbrev pub record_facts : LogEntry → RecordFacts
record_facts e = record {
  timestamp = told_number e.log.timestamp;
  observed_timestamp = told_number e.log.observed_timestamp;
  severity_number = told_number e.log.severity_number;
  severity_text = told_text e.log.severity_text;
  event_name = told_text e.log.event_name;
  body = option_map told_tree e.log.body;
  attributes = map told_pair (attributes e.log);
  dropped_attributes = dropped e.log;
  context = option_map trace_facts e.log.trace_context;
}
