use Rattle.std.proofs.Common.{◌≡◌, [], OnOk, true}
use Rattle.otel_sdk.specs.Exports.{ShutsDown}
use Rattle.otel_sdk.proofs.TimerLemmas.{Tried}
use Rattle.otel_sdk.proofs.trace.tracing.last_export.shut_down.Given as goal

-- the answer is that of the last shutdown
abbrev pub invariant-loop-tracing : goal.invariant-loop-tracing
invariant-loop-tracing g l = record {
  tried : Tried (λ answer old new. ShutsDown g.T.Source.SpanSource.calls g.T.Processors.SpanProcessor.calls g.T.Exports.processors_of
      g.T.Source.Span.Span.after_end answer (g.T.Tracing.held old) (g.T.Tracing.held new))
      (λ t. g.T.Processors.SpanProcessor.calls.is_shut_down (g.T.Exports.processors_of (g.T.Tracing.held t).source))
      (g.C.Clock.reads l.clock) l.fn.timer l.timer l.answer l.fn.tracing l.tracing;
  none_open : (g.T.Tracing.held l.tracing).places ≡ [];
  closed : OnOk l.answer (g.T.Processors.SpanProcessor.calls.is_shut_down (g.T.Exports.processors_of (g.T.Tracing.held l.tracing).source) ≡ true);
}

abbrev pub decreases-loop-tracing : goal.decreases-loop-tracing
decreases-loop-tracing g l = l.timer.left
