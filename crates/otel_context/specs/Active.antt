-- The effect of the calls that make a span active, or pass a function a reference to it.
use Rattle.std.specs.Prelude.{◌≡◌, ℕ, Ok}
use Rattle.std.specs.declared.alloc.AllocError.{AllocError}
use Rattle.std.specs.Borrow.{MutBor}
use Rattle.std.specs.Fn.{Once, FnOnceReturnsAtMut}
use Rattle.otel_context.specs.declared.span.span_ref.SpanRef.{SpanRef}
use Rattle.otel_context.specs.Context.{ContextRecord, span_context, span_number}
use Rattle.otel_context.specs.SpanRef as reference
use Rattle.otel_context.specs.SpanRef.{IsSameReference, table_of, number_of}
use Rattle.otel_context.specs.SpanCalls.{OthersStay}
use Rattle.otel_context.specs.Spans.{SpansState}
use Rattle.otel_context.specs.Stack.{StackState, Attaches}

-- the context is attached at that position or, if the greatest is live, nothing is (`attach`)
abbrev pub AttachesAt : ℕ → ContextRecord → StackState → StackState → Type 0
AttachesAt position context old new = Attaches {E = AllocError} context old new (Ok position)

-- a function that takes a reference, and returns a value of type T
abbrev pub OnSpan : Type 0 → Type 0 → Type 0 → Type 1
OnSpan F T S = Once F (MutBor (SpanRef S) × Unit {0}) (T × (MutBor (SpanRef S) × Unit {0}))

module _ {F T S : Type 0} (g : OnSpan F T S) (f : F) where
  -- f never replaces the reference that it is passed with another one, as no call of a `SpanRef`
  -- does
  abbrev pub KeepsReference : Type 0
  KeepsReference =
      (lent left : MutBor (SpanRef S)) (returned : T)
      → g.post f (lent, tt) (returned, (left, tt)) → IsSameReference lent.now left.now

  -- f was called once, with a reference to the context's span in the table, and returned that. The
  -- table is as f left it, and no other span changed
  pub record CallsOnce (context : ContextRecord) (old : SpansState S) (returned : T)
      (new : SpansState S) : Type 0 where
    pub before : SpanRef S
    pub table : table_of before ≡ old
    pub number : number_of before ≡ span_number context
    pub span_context_is : reference.span_context before ≡ span_context context
    pub after : SpanRef S
    pub called : FnOnceReturnsAtMut g f before returned after
    pub left : new ≡ table_of after
    pub others : OthersStay (span_number context) old new
