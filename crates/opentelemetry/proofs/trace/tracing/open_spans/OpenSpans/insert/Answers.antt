use Rattle.opentelemetry.proofs.OpenLemmas.{sound-insert}
use Rattle.opentelemetry.proofs.trace.tracing.open_spans.OpenSpans.insert.Goals as goal

pub invariant_of-self : goal.invariant_of-self
invariant_of-self g c = sound-insert g.B.SpanSource.calls c.self.inside.source c.self.inside.spans c.with_span.new.spans _
    c.args.span c.with_span.result c.with_span.ensures.inserted c.with_span.ensures.unchanged c.self.invariant
