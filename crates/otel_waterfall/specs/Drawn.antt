-- The spans of a batch as they are drawn. Not in the Rust crates.
use Rattle.std.specs.Prelude.{ℕ, Bool, List, map}
use Rattle.otel_context.specs.declared.span.status.Status.{Status}
use Rattle.otel_context.specs.declared.span.status.Status.TheVariants as status
use Rattle.otel_waterfall.specs.Name.{shown_name}
use Rattle.otel_waterfall.specs.declared.span.Outcome.{Outcome}
use Rattle.otel_waterfall.specs.declared.span.Outcome.TheVariants as outcome
use Rattle.otel_waterfall.specs.declared.span.Span.{Span}
use Rattle.otel_sdk_span.specs.SpanData.{SpanRecord}

-- the outcome that a row shows for a status
abbrev pub outcome_of : Status → Outcome
outcome_of status.Unset = outcome.Unset
outcome_of status.Ok = outcome.Ok
outcome_of (status.Error description) = outcome.Error

-- the drawn parts of a span: its ids, its parent and whether that is remote, its name as it is
-- shown, its start and end, the moments of its events, and the outcome that its row shows
pub record Look : Type 0 where
  pub trace_id : ℕ
  pub span_id : ℕ
  pub parent_span_id : ℕ
  pub is_parent_remote : Bool
  pub name : List ℕ
  pub start : ℕ
  pub end : ℕ
  pub moments : List ℕ
  pub outcome : Outcome

-- the drawn parts of a span of a batch
abbrev pub look_of : Bool → SpanRecord → Look
look_of ascii s = record {
  trace_id = s.span_context.trace_id;
  span_id = s.span_context.span_id;
  parent_span_id = s.parent_span_id;
  is_parent_remote = s.parent_span_is_remote;
  name = shown_name ascii s.name;
  start = s.start_time;
  end = s.end_time;
  moments = map (λ e. e.timestamp) s.events;
  outcome = outcome_of s.status;
}

-- the drawn parts of a span as it is drawn
abbrev pub look : Span → Look
look s = record {
  trace_id = s.trace_id;
  span_id = s.span_id;
  parent_span_id = s.parent_span_id;
  is_parent_remote = s.is_parent_remote;
  name = s.name.items;
  start = s.start;
  end = s.end;
  moments = s.moments.items;
  outcome = s.outcome;
}
