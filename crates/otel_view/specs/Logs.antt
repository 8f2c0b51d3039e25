-- The log records of the spans of a trace.
use Rattle.std.specs.Prelude.{◌≡◌, ℕ, ◌+◌, ◌==◌, nat_eq, nat_lt, if◌then◌else◌, List, [], ◌∷◌, ◌++◌}
use Rattle.std.specs.Prelude.{Option, None, Some, Vec}
use Rattle.std.specs.Option.{unwrap_or}
use Rattle.std.specs.declared.alloc.Global.{Global}
use Rattle.indexmap.specs.IndexMap.{Updates}
use Rattle.opentelemetry.specs.Clock.{within_u64}
use Rattle.otel_sdk_logs.specs.declared.record.TraceContext.{TraceContext}
use Rattle.otel_view.specs.declared.logs.Line.{Line}
use Rattle.otel_view.specs.declared.logs.Logs.{Logs}

-- when the record happened or, if that isn't known, when it was observed
abbrev pub time_of : Option ℕ → Option ℕ → ℕ
time_of None observed = unwrap_or observed 0
time_of (Some time) observed = if nat_lt 0 time then time else unwrap_or observed 0

-- the span that was active, if it is of the trace
abbrev pub span_of : ℕ → Option TraceContext → Option ℕ
span_of trace None = None
span_of trace (Some active) = if active.trace_id == trace then Some active.span_id else None

-- the span has one more record, after its others; all else is the same
pub record KeepsLine (id : ℕ) (line : Line) (old new : Logs) (lines : Vec Line Global)
    : Type 0 where
  pub kept : Vec Line Global
  pub adds : kept.items ≡ lines.items ++ line ∷ []
  pub updates : Updates nat_eq old.spans new.spans id (Some kept)
  pub others : new.others ≡ old.others
  pub trace : new.trace ≡ old.trace

-- one more record of no span
pub record CountsOther (old new : Logs) : Type 0 where
  pub others : new.others ≡ within_u64 (old.others + 1)
  pub spans : new.spans ≡ old.spans
  pub trace : new.trace ≡ old.trace
