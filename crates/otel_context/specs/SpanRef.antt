-- The model of a reference to the span of a context, and the effect of a call through it.
use Rattle.std.specs.Prelude.{◌≡◌, ℕ, Bool, false, Option}
use Rattle.std.specs.Option.{option_map_or}
use Rattle.otel_ids.specs.SpanContext.{SpanContextRecord}
use Rattle.otel_context.specs.Spans.{SpansState, find}
use Rattle.otel_context.specs.SpanCalls as calls
use Rattle.otel_context.specs.declared.span.span_ref.SpanRef.{SpanRef}

module _ {S : Type 0} where
  -- the borrowed table
  abbrev pub table_of : SpanRef S → SpansState S
  table_of reference = reference.spans.now

  -- the number of the context's span, if it has one
  abbrev pub number_of : SpanRef S → Option ℕ
  number_of reference = reference.number

  -- the context's span context
  abbrev pub span_context : SpanRef S → SpanContextRecord
  span_context reference = reference.context.now

  -- the span, if the table has it
  abbrev pub span_of : SpanRef S → Option S
  span_of reference = find (table_of reference) (number_of reference)

  -- whether the span records; `false` without a span
  abbrev pub is_recording : (S → Bool) → SpanRef S → Bool
  is_recording records reference = option_map_or records (span_of reference) false

  -- the table after an effect on the span, if the table has it
  abbrev pub table_after : (S → S) → SpanRef S → SpansState S
  table_after effect reference =
      calls.after_effect effect (table_of reference) (number_of reference)

  -- the span became one related to it, if the table has it; otherwise the table is unchanged
  abbrev pub Becomes : (S → S → Type 0) → SpanRef S → SpanRef S → Type 0
  Becomes Relation old new = calls.BecomesOne Relation (table_of old) (number_of old) (table_of new)

  -- a reference into the same table, with the same number and span context
  pub record IsSameReference (old new : SpanRef S) : Type 0 where
    pub table : new.spans.ghost_name ≡ old.spans.ghost_name
    pub number : new.number ≡ old.number
    pub context : new.context.now ≡ old.context.now
    pub first : new.first.value ≡ old.first.value
