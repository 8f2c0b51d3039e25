use Rattle.std.proofs.Common.{rules}
use Rattle.opentelemetry.proofs.OpenLemmas.{sound-remove}
use Rattle.opentelemetry.proofs.trace.tracing.open_spans.OpenSpans.remove.Goals as goal

pub invariant_of-self : goal.invariant_of-self
invariant_of-self g c = sound-remove g.B.SpanSource.calls c.self.inside.source c.self.inside.spans c.discard.new.self _
    c.args.number (search rules) c.discard.ensures.taken c.self.invariant
