use Rattle.opentelemetry.proofs.LocalLemmas.{Rest}
use Rattle.opentelemetry.proofs.trace.tracing.local.LocalTracing.end_inside.Given as goal

-- to end those of the rest that end is to end all that do
abbrev pub invariant-loop-index : goal.invariant-loop-index
invariant-loop-index g l =
    Rest g.B.SpanSource.calls g.B.Span.Span.after_end l.timestamp l.outer l.index l.initial.self l.self

abbrev pub decreases-loop-index : goal.decreases-loop-index
decreases-loop-index g l = l.index
