-- The model of a context: a record of four parts, without the sharing among contexts. Definitions
-- have the names of the methods of `Context`; `baggage` is the record's own part.
use Rattle.std.specs.Prelude.{ℕ, List, Bool, true, false, Option, Some, None, is_some}
use Rattle.std.specs.Option.{option_and_then, option_map_or}
use Rattle.std.specs.Ordering.{nat_cmp}
use Rattle.std.specs.Cmp.Lexicographic.{slice_cmp}
use Rattle.std.specs.FinMap as map
use Rattle.otel_ids.specs.SpanContext.{SpanContextRecord, no_span_context}
use Rattle.otel_base.specs.AnyValue.{Tree}
use Rattle.otel_context.specs.BaggageMember.{Member}

-- a finite map from texts, in the order of their bytes, to value trees (not in the Rust crate,
-- whose map is from types to values of any type)
abbrev pub EntryMap : Type 0
EntryMap = map.FinMap (slice_cmp nat_cmp) Tree

-- the active span: its span context and, if it is a local span, its number in a span table
-- (the Rust crate's `SynchronizedSpan`)
pub record SpanPart : Type 0 where
  pub context : SpanContextRecord
  pub number : Option ℕ

-- a context: its entries, its baggage, its active span, and whether telemetry is suppressed (the
-- Rust crate's `Context`). The baggage `None` means the empty one.
pub record ContextRecord : Type 0 where
  pub entries : EntryMap
  pub baggage : Option (List Member)
  pub span : Option SpanPart
  pub suppressed : Bool

-- the empty context (`Context::new`)
abbrev pub empty_context : ContextRecord
empty_context = record { entries = map.empty; baggage = None; span = None; suppressed = false }

-- the value of the entry with that name, if any (`Context::get`)
abbrev pub get : ContextRecord → List ℕ → Option Tree
get context key = map.get context.entries key

-- the same context, with the entry in place of any entry with that name (`Context::with_value`)
abbrev pub with_value : ContextRecord → List ℕ → Tree → ContextRecord
with_value context key value = record context { entries = map.insert context.entries key value }

-- the same context, with that baggage (`Context::with_baggage`)
abbrev pub with_baggage : ContextRecord → List Member → ContextRecord
with_baggage context members = record context { baggage = Some members }

-- the same context, without baggage (`Context::with_cleared_baggage`)
abbrev pub with_cleared_baggage : ContextRecord → ContextRecord
with_cleared_baggage context = record context { baggage = None }

-- whether a span is active (`Context::has_active_span`)
abbrev pub has_active_span : ContextRecord → Bool
has_active_span context = is_some context.span

-- the span context of the active span; without one, the span context of no span
-- (`Context::span_context`; not in the Rust crate)
abbrev pub span_context : ContextRecord → SpanContextRecord
span_context context = option_map_or (λ span. span.context) context.span no_span_context

-- the number of the active span in its span table, if it is local (`Context::span_number`; not in
-- the Rust crate)
abbrev pub span_number : ContextRecord → Option ℕ
span_number context = option_and_then (λ span. span.number) context.span

-- the same context, whose active span is remote (`Context::with_remote_span_context`)
abbrev pub with_remote_span_context : ContextRecord → SpanContextRecord → ContextRecord
with_remote_span_context context remote = record context {
  span = Some (record { context = remote; number = None });
}

-- the same context, whose active span is local, with this span context and this number in its span
-- table (`Context::with_span`)
abbrev pub with_span : ContextRecord → SpanContextRecord → ℕ → ContextRecord
with_span context local number = record context {
  span = Some (record { context = local; number = Some number });
}

-- whether telemetry is suppressed (`Context::is_telemetry_suppressed`)
abbrev pub is_telemetry_suppressed : ContextRecord → Bool
is_telemetry_suppressed context = context.suppressed

-- the same context, with telemetry suppressed (`Context::with_telemetry_suppressed`)
abbrev pub with_telemetry_suppressed : ContextRecord → ContextRecord
with_telemetry_suppressed context = record context { suppressed = true }
