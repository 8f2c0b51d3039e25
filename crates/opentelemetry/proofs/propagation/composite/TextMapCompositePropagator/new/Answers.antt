use Rattle.opentelemetry.proofs.Union.{names_all}
use Rattle.opentelemetry.proofs.propagation.composite.TextMapCompositePropagator.new.Goals as goal

pub returns-clause-fields : goal.returns-clause-fields
returns-clause-fields g c = names_all _ _ _ _ _ c.deref-member-items.ensures.value c.loop-member-test.false c.loop-member.invariant
