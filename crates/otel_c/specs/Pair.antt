-- The effect of setting a pair of the trace state of a context's span.
use Rattle.std.specs.Prelude.{◌≡◌, ◌⊎◌, ℕ, true, List, Option}
use Rattle.http_header.specs.FieldValue.{is_visible_text}
use Rattle.otel_ids.specs.SpanContext.{SpanContextRecord}
use Rattle.otel_ids.specs.TraceState.{Pair, pair_with, insert}
use Rattle.otel_ids.specs.TraceStateError.{pair_fault}
use Rattle.otel_context.specs.Context.{ContextRecord, span_context, with_remote_span_context}
use Rattle.otel_c.specs.declared.object.Object.{Object}
use Rattle.otel_c.specs.declared.status.Status.{Status}
use Rattle.otel_c.specs.Context.{CopyRefused}
use Rattle.otel_c.specs.Status.{IsNoText, IsUnsendable, Blames}

-- the span context with this trace state
abbrev pub with_state : SpanContextRecord → List Pair → SpanContextRecord
with_state span pairs = record span { trace_state = pairs }

-- the second trace state is the first with the pair in front, whose value a header can carry, as it
-- can a key
pub record InsertsSendable (key value : List ℕ) (old new : List Pair) : Type 0 where
  pub sendable : is_visible_text value ≡ true
  pub is : new ≡ insert old key value

-- the second context is the first with the pair in front of the trace state of its span
pub record SetsPair (key value : List ℕ) (before after : ContextRecord) : Type 0 where
  pub pairs : List Pair
  pub inserts : InsertsSendable key value (span_context before).trace_state pairs
  pub is : after ≡ with_remote_span_context before (with_state (span_context before) pairs)

-- ---- refusals

-- why the pair wasn't inserted: a text isn't UTF-8, the pair isn't valid, or no header can carry
-- the value
abbrev pub PairRefused : List ℕ → List ℕ → Status → Type 0
PairRefused key value s =
    (IsNoText key s ⊎ IsNoText value s)
    ⊎ (Blames (pair_fault (pair_with key value)) s ⊎ IsUnsendable value s)

-- why no pair was set
abbrev pub SetPairRefused : List ℕ → List ℕ → Option Object → Status → Type 0
SetPairRefused key value old s = CopyRefused old s ⊎ PairRefused key value s
