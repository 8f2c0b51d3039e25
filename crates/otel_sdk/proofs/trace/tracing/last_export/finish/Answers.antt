use Rattle.std.proofs.Common.{subst}
use Rattle.otel_sdk.specs.LastExport.{IsOutcome}
use Rattle.otel_sdk.proofs.TimerLemmas.{finishes}
use Rattle.otel_sdk.proofs.trace.tracing.last_export.finish.Goals as goal

pub returns-clause-finishes : goal.returns-clause-finishes
returns-clause-finishes g c =
    finishes _ _ _ _ _ _ c.new-timer.result c.shut_down-shutdown.result _ _ _ c.new-timer.ensures.shown
    c.new-timer.ensures.left c.shut_down-shutdown.ensures.last
    (subst (λ processors. IsOutcome c.shut_down-shutdown.result (g.T.Processors.SpanProcessor.calls.losses processors)
    (g.T.Processors.SpanProcessor.calls.last_message processors) c.outcome.result) c.processors.ensures c.outcome.ensures)
