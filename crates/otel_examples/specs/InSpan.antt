-- The spans of a caller of `in_span`.
use Rattle.std.specs.Prelude.{◌≡◌, ℕ, Option, Some, IfSome, codes}
use Rattle.otel_base.specs.KeyValue.{Attribute}
use Rattle.otel_base.specs.Value.{text}
use Rattle.otel_context.specs.Context.{ContextRecord, span_number}
use Rattle.otel_context.specs.Spans.{SpansState, insert}
use Rattle.otel_context.specs.SpanCalls.{after_effect}

-- the attribute that the caller sets: `http.request.method` is `GET`
-- (OpenTelemetry semantic conventions, "HTTP")
abbrev pub method : Attribute
method = (codes "http.request.method", text (codes "GET"))

module _ {S : Type 0} (after_attribute : S → Attribute → S) where
  -- the table after the attribute is set on the span with the number
  abbrev pub set : SpansState S → Option ℕ → SpansState S
  set table number = after_effect (λ span. after_attribute span method) table number

  -- the attribute was set on the context's span, and a child span was then put into the table
  pub record HasChild (old : SpansState S) (context : ContextRecord) (child : ℕ)
      (new : SpansState S) : Type 0 where
    pub span : S
    pub number : child ≡ (set old (span_number context)).next_number
    pub table : new ≡ insert (set old (span_number context)) span

  -- a span was put into the table, the attribute was set on it, and then a child span was put in
  pub record HasBoth (old : SpansState S) (parent child : ℕ) (new : SpansState S) : Type 0 where
    pub parent_span : S
    pub child_span : S
    pub parent_number : parent ≡ old.next_number
    pub child_number : child ≡ (set (insert old parent_span) (Some parent)).next_number
    pub table : new ≡ insert (set (insert old parent_span) (Some parent)) child_span

  -- a request was handled: if its child span has a number, the table has both spans
  abbrev pub IsHandled : SpansState S → SpansState S → Option ℕ × ℕ → Type 0
  IsHandled old new numbers = IfSome numbers.0 (λ child. HasBoth old numbers.1 child new)
