use Rattle.otel_c.proofs.Children.{starts, refuses_start}
use Rattle.otel_c.proofs.child.start.Goals as goal

pub returns-then-not-is_valid-clause-refused : goal.returns-then-not-is_valid-clause-refused
returns-then-not-is_valid-clause-refused c =
    refuses_start _ _ _ c.in_ok-parent.ensures.copy _ _ c.span_context.ensures c.in_ok-span.ensures
    _ c.is_valid.ensures c.if-not-is_valid.true

pub returns-clause-child : goal.returns-clause-child
returns-clause-child c =
    starts _ _ _ c.in_ok-parent.ensures.copy _ _ c.span_context.ensures c.in_ok-span.ensures
    _ c.is_valid.ensures c.make.result _ _ c.if-not-is_valid.false c.in_ok-made.ensures
    c.make.ensures.context
