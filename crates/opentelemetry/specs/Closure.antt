-- The effect of a closure that runs in a span.
use Rattle.std.specs.Prelude.{◌≡◌}
use Rattle.std.specs.Borrow.{MutBor}
use Rattle.std.specs.Fn.{Once}

module _ (Stack Spans Context : Type 0) where
  -- the closure's arguments: mutable borrows of a stack and a table, and a context
  abbrev pub Lent : Type 0
  Lent = MutBor Stack × (MutBor Spans × (Context × Unit {0}))

  -- its outcome: its result, and the two mutable borrows
  abbrev pub Left : Type 0 → Type 0
  Left Out = Out × (MutBor Stack × (MutBor Spans × Unit {0}))

-- called once on this stack, this table and this context, the closure returns `out` and leaves
-- `left` and `left_spans`
pub record CallLeaves {F Out Stack Spans Context : Type 0}
    (g : Once F (Lent Stack Spans Context) (Left Stack Spans Context Out)) (f : F)
    (stack : Stack) (spans : Spans) (context : Context)
    (out : Out) (left : Stack) (left_spans : Spans) : Type 0 where
  pub stack_lent : MutBor Stack
  pub spans_lent : MutBor Spans
  pub stack_left : MutBor Stack
  pub spans_left : MutBor Spans
  pub called :
      g.post f (stack_lent, (spans_lent, (context, tt))) (out, (stack_left, (spans_left, tt)))
  pub on_stack : stack_lent.now ≡ stack
  pub on_spans : spans_lent.now ≡ spans
  pub leaves_stack : stack_left.now ≡ left
  pub leaves_spans : spans_left.now ≡ left_spans
