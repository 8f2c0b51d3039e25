-- The parts of a context that both headers restore after both propagators injected it. Not in the
-- Rust crate.
use Rattle.std.specs.Prelude.{◌≡◌, ◌≢◌, ◌^◌, ◌<◌, ◌⊎◌, ℕ, List, ◌++◌, All, true, map, if◌then◌else◌}
use Rattle.std.specs.Prelude.{Some, None}
use Rattle.otel_ids.specs.TraceState.{IsState, header as state_header}
use Rattle.otel_ids.specs.Laws.{cut_value}
use Rattle.otel_ids.specs.SpanContext.{SpanContextRecord, IsValidSpanContext}
use Rattle.otel_context.specs.Baggage.{IsBaggage}
use Rattle.otel_context.specs.BaggageHeader.{header}
use Rattle.otel_context.specs.BaggageLaws.{HasNoComma}
use Rattle.otel_context.specs.Context.{ContextRecord, SpanPart, span_context}
use Rattle.opentelemetry.specs.Carrier.{Pairs, TextMap, Sets, at, lower}
use Rattle.otel_propagators.specs.BaggagePropagator.{baggage_key, members, baggage_pairs}
use Rattle.otel_propagators.specs.BaggagePropagator.{baggage_extracted}
use Rattle.otel_propagators.specs.TraceContext.{traceparent_key, tracestate_key, parent, is_valid}
use Rattle.otel_propagators.specs.TraceContext.{trace_pairs, trace_extracted}
use Rattle.otel_propagators.specs.TraceParent.{parent_text}
use Rattle.otel_propagators.specs.W3cPropagator.{w3c_pairs, w3c_extracted}

-- ---- the properties of every context

-- ids of 128 and of 64 bits, flags of 8 bits, and a trace state
pub record IsSpanContext (s : SpanContextRecord) : Type 0 where
  pub trace_id : s.trace_id < 2 ^ 128
  pub span_id : s.span_id < 2 ^ 64
  pub trace_flags : s.trace_flags < 2 ^ 8
  pub trace_state : IsState s.trace_state

-- The parts that the headers carry have the properties of their types. Every `Context` is one: cite
-- `laws::every_context`.
pub record IsContext (context : ContextRecord) : Type 0 where
  pub span_context : IsSpanContext (span_context context)
  pub members : IsBaggage (members context)

-- ---- there

-- both propagators inject the context, one after the other: the texts are `old`, `between`, `new`
pub record BothInject (context : ContextRecord) (old new : TextMap) : Type 0 where
  pub between : TextMap
  pub sets :
      (Sets old (trace_pairs context) between × Sets between (baggage_pairs context) new)
      ⊎ (Sets old (baggage_pairs context) between × Sets between (trace_pairs context) new)

-- The texts of a carrier with the texts `old` at the three keys once both propagators have injected
-- the context, alone or among members with other keys. It says nothing of other keys.
pub record AreSet (context : ContextRecord) (old new : TextMap) : Type 0 where
  -- `traceparent` and `tracestate` of a valid span context; otherwise both are unchanged
  pub traceparent : at new traceparent_key
      ≡ (if is_valid (span_context context)
      then Some (parent_text (parent (span_context context)))
      else at old traceparent_key)
  pub tracestate : at new tracestate_key
      ≡ (if is_valid (span_context context)
      then Some (state_header (span_context context).trace_state)
      else at old tracestate_key)
  pub baggage : at new baggage_key ≡ Some (header (members context))

-- the pair's key is none of the three
abbrev pub IsOther : List ℕ × List ℕ → Type 0
IsOther pair =
    (lower pair.0 ≢ traceparent_key)
    × (lower pair.0 ≢ tracestate_key)
    × (lower pair.0 ≢ baggage_key)

-- The pairs of a composite of both, in either order: the pairs of one and of the other, and before,
-- between and after them the pairs of members with other keys.
pub record ArePairsOfBoth (context : ContextRecord) (pairs : Pairs) : Type 0 where
  pub before : Pairs
  pub one : Pairs
  pub between : Pairs
  pub other : Pairs
  pub after : Pairs
  pub all : pairs ≡ before ++ (one ++ (between ++ (other ++ after)))
  pub both :
      ((one ≡ trace_pairs context) × (other ≡ baggage_pairs context))
      ⊎ ((one ≡ baggage_pairs context) × (other ≡ trace_pairs context))
  pub others : All IsOther before × All IsOther between × All IsOther after

-- ---- and back

-- both propagators extract from the texts, one after the other, starting from the context `given`,
-- as a composite of both does
abbrev pub BothExtract : ContextRecord → TextMap → ContextRecord → Type 0
BothExtract given texts back =
    (back ≡ baggage_extracted (trace_extracted given texts) texts)
    ⊎ (back ≡ trace_extracted (baggage_extracted given texts) texts)

-- the span that the other side receives: remote, with the same ids, flags and trace state, except
-- the blanks at the ends of the trace state's values, which reading trims
abbrev pub received_span : SpanContextRecord → SpanPart
received_span s = record {
  context = record s { is_remote = true; trace_state = map cut_value s.trace_state };
  number = None;
}

-- The result of injecting a context into a carrier with the texts `old` and extracting it into the
-- context `given`.
pub record ComesBack (context : ContextRecord) (old : TextMap) (given back : ContextRecord)
    : Type 0 where
  -- a valid span context is restored as a remote one
  pub span : IsValidSpanContext (span_context context)
      → back.span ≡ Some (received_span (span_context context))
  -- an invalid one sets nothing: if there was no `traceparent`, the given span stays
  pub no_span : ¬ IsValidSpanContext (span_context context)
      → at old traceparent_key ≡ None → back.span ≡ given.span
  -- the same members are restored, if no metadata contains a comma; no baggage counts as no members
  pub members : All HasNoComma (members context) → members back ≡ members context
  -- nothing else changes: the given entries, and whether telemetry is suppressed
  pub nothing_else : back ≡ record given { span = back.span; baggage = back.baggage }

-- ---- the laws

-- a context injected by two propagators in turn is restored
abbrev pub ComesBackInTurn : Type 0
ComesBackInTurn = (context given back : ContextRecord) (old new : TextMap) → IsContext context
    → BothInject context old new → BothExtract given new back → ComesBack context old given back

-- a context is restored from the three keys, whatever the texts at other keys
abbrev pub ComesBackTogether : Type 0
ComesBackTogether = (context given back : ContextRecord) (old new : TextMap) → IsContext context
    → AreSet context old new → BothExtract given new back → ComesBack context old given back

-- a composite of both, and of members with other keys, sets the three keys
abbrev pub CompositeSets : Type 0
CompositeSets = (context : ContextRecord) (pairs : Pairs) (old new : TextMap)
    → ArePairsOfBoth context pairs → Sets old pairs new → AreSet context old new

-- a context that a `W3cPropagator` injects is restored if a `W3cPropagator` extracts it
abbrev pub ComesBackByW3c : Type 0
ComesBackByW3c = (context given back : ContextRecord) (old new : TextMap) → IsContext context
    → Sets old (w3c_pairs context) new → back ≡ w3c_extracted given new
    → ComesBack context old given back
