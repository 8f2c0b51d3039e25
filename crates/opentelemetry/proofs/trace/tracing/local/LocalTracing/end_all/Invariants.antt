use Rattle.std.proofs.Common.{length}
use Rattle.opentelemetry.proofs.LocalLemmas.{AllRest}
use Rattle.opentelemetry.proofs.trace.tracing.local.LocalTracing.end_all.Given as goal

-- to end all from here is to end all from the start
abbrev pub invariant-loop-self : goal.invariant-loop-self
invariant-loop-self g l =
    AllRest g.B.SpanSource.calls g.B.Span.Span.after_end l.now l.initial.self l.self

abbrev pub decreases-loop-self : goal.decreases-loop-self
decreases-loop-self g l = length l.self.places
