-- The model of a span table: a finite map from numbers to spans, and the next number (not in the
-- Rust crate, whose contexts share their spans).
use Rattle.std.specs.Prelude.{◌≡◌, ◌⊎◌, ℕ, ◌+◌, ◌<◌, ◌==◌, Option, Some, None, IsSome, alloc_error}
use Rattle.std.specs.Prelude.{List, codes, if◌then◌else◌}
use Rattle.std.specs.Ordering.{nat_cmp}
use Rattle.std.specs.FinMap as map
use Rattle.otel_context.specs.declared.span.spans.SpanCause.{SpanCause}
use Rattle.otel_context.specs.declared.span.spans.SpanCause.TheVariants.{NumbersUsedUp, Memory}
use Rattle.otel_context.specs.declared.span.spans.SpanRefused.{SpanRefused}

-- the spans by their numbers, and the number of the next one
pub record SpansState (S : Type 0) : Type 0 where
  pub spans : map.FinMap nat_cmp S
  pub next_number : ℕ

-- the next number once all numbers are used: the greatest `u64`
abbrev pub used_up : ℕ
used_up = 18446744073709551615

-- the printed text of a cause
abbrev pub cause_text : SpanCause → List ℕ
cause_text NumbersUsedUp = codes "no span number left"
cause_text (Memory error) = codes "no memory"

module _ {S : Type 0} where
  -- no span, and the first number
  abbrev pub starting_at : ℕ → SpansState S
  starting_at first = record { spans = map.empty; next_number = first }

  -- the span with the number, if any
  abbrev pub get : SpansState S → ℕ → Option S
  get table number = map.get table.spans number

  -- the number of spans in the table
  abbrev pub len : SpansState S → ℕ
  len table = map.len table.spans

  -- each span has a number below the next one, so an inserted span replaces none
  abbrev pub IsNumbered : SpansState S → Type 0
  IsNumbered table = (number : ℕ) → IsSome (get table number) → number < table.next_number

  -- the table with the span under its next number, which increases by one. After inserting a into
  -- the empty table from 0: a has the number 0, and 1 is next
  abbrev pub insert : SpansState S → S → SpansState S
  insert table span = record {
    spans = map.insert table.spans table.next_number span;
    next_number = table.next_number + 1;
  }

  -- the table with this span in place of the one with the number
  abbrev pub replace : SpansState S → ℕ → S → SpansState S
  replace table number span = record table { spans = map.insert table.spans number span }

  -- the span with the number of a context, if any
  abbrev pub find : SpansState S → Option ℕ → Option S
  find table None = None
  find table (Some number) = get table number

  -- the table with this span under the number of a context, if it has one
  abbrev pub replace_found : SpansState S → Option ℕ → S → SpansState S
  replace_found table None span = table
  replace_found table (Some number) span = replace table number span

  -- the table without the span with the number, which isn't used again
  abbrev pub take : SpansState S → ℕ → SpansState S
  take table number = record table { spans = map.remove table.spans number }

  -- why the table refuses a span: its numbers are used up, or it is out of memory
  abbrev pub cause_of : SpansState S → SpanCause
  cause_of table = if table.next_number == used_up then NumbersUsedUp else Memory alloc_error

  -- the refusal, which contains the span that was passed in
  abbrev pub refusal : SpansState S → S → SpanRefused S
  refusal table span = record { span = span; cause = cause_of table }

  -- the same spans; at most one more number was used
  pub record HasSameSpans (old new : SpansState S) : Type 0 where
    pub spans : new.spans ≡ old.spans
    pub next_number : (new.next_number ≡ old.next_number) ⊎ (new.next_number ≡ old.next_number + 1)
