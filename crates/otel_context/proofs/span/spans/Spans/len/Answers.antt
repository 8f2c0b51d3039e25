use Rattle.std.proofs.Common.{arith}
use Rattle.otel_context.specs.View.{map_of}
use Rattle.otel_context.proofs.SpanSlots.{len-spans}
use Rattle.otel_context.proofs.span.spans.Spans.len.Goals as goal

pub returns : goal.returns
returns g c =
    let t = c.self.inside in
    rw (← c.self.view_is) (omega (arith, c.len.ensures, len-spans t.slots.items (map_of t.places.items) c.self.invariant.1, t.slots.ok.0))
