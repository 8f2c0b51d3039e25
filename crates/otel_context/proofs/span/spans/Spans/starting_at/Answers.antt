use Rattle.std.proofs.Common.{arith}
use Rattle.otel_context.proofs.SpanSlots.{nothing-indexed}
use Rattle.otel_context.proofs.span.spans.Spans.starting_at.Goals as goal

pub invariant_of-result : goal.invariant_of-result
invariant_of-result g c = rw (c.new.ensures.items, c.new-2.ensures.items) (omega arith, nothing-indexed)
