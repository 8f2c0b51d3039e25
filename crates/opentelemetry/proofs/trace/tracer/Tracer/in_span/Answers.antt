use Rattle.std.proofs.Common.{◌∙◌}
use Rattle.opentelemetry.proofs.trace.tracer.Tracer.in_span.Goals as goal

pub returns-clause-ran : goal.returns-clause-ran
returns-clause-ran g c =
    let entered = c.in-Ok-enter_current.ensures.entered in
    let run = c.run_entered.ensures in
    record {
      span = c.in-Ok.span;
      built = rw c.span_builder.ensures at c.in-Ok.ensures;
      position = c.in-Ok-enter_current.entered.position;
      context = c.in-Ok-enter_current.entered.context;
      of_parent = entered.context;
      lent = c.enter_current.new.stack;
      attached = entered.attached;
      left = run.left;
      ran = rw entered.inserted at run.ran;
      removed = run.removed;
      detached = run.detached;
      number = run.number ∙ entered.number;
    }
