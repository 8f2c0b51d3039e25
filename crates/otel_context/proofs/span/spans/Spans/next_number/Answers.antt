use Rattle.otel_context.proofs.SpanSlots.{numbered, fresh}
use Rattle.otel_context.proofs.span.spans.Spans.next_number.Goals as goal

pub returns-clause-fresh : goal.returns-clause-fresh
returns-clause-fresh g c = rw (← c.self.view_is) (fresh c.self.inside.next c.self.inside.slots.items c.self.inside.places.items c.self.invariant.0 c.self.invariant.1)

pub returns-clause-numbered : goal.returns-clause-numbered
returns-clause-numbered g c = rw (← c.self.view_is) (numbered c.self.inside.next c.self.inside.slots.items c.self.inside.places.items c.self.invariant.0 c.self.invariant.1)
