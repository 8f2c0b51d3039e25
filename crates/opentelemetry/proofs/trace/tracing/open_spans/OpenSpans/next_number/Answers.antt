use Rattle.std.proofs.Common.{◌∙◌, ap, arith, reverse, sym}
use Rattle.opentelemetry.specs.OpenSpans.{OpenState}
use Rattle.opentelemetry.specs.Tracing as spec
use Rattle.opentelemetry.proofs.OpenLemmas.{closed-above}
use Rattle.opentelemetry.proofs.trace.tracing.open_spans.OpenSpans.next_number.Goals as goal

pub returns-clause-fresh : goal.returns-clause-fresh
returns-clause-fresh g c =
    ap (λ (t : OpenState g.row.B.Denot g.row.B-Span.Denot). spec.is_open c.next_number.result t.places) (sym c.self.view_is)
    ∙ closed-above c.next_number.result c.self.inside.spans.next_number (reverse c.self.inside.places.items)
    (omega (arith, c.next_number.ensures.number)) c.self.invariant.falling
