use Rattle.std.proofs.Common.{refl, rules}
use Rattle.otel_sdk_base.specs.Queue.{IsShutDown}
use Rattle.otel_sdk_base.specs.QueueView.{state}
use Rattle.otel_sdk.proofs.Received.{of_view, received-shut}
use Rattle.otel_sdk.proofs.trace.processor.batch.BatchSpanProcessorSpanProcessor.shutdown.Goals as goal

pub returns-clause-shuts_down : goal.returns-clause-shuts_down
returns-clause-shuts_down g c = of_view (IsShutDown g.E.Exporter.accepted g.E.Exporter.calls c.shutdown.result)
    _ (record { queue = state c.self.inside.queue; given = c.self.inside.given.items; skips = c.self.inside.skips }) _ (search rules)
    (c.shutdown.ensures.0, refl, refl)

pub returns-clause-account : goal.returns-clause-account
returns-clause-account g c =
    received-shut g.E.Exporter.accepted g.E.Exporter.calls _ _ c.shutdown.result (returns-clause-shuts_down g c)
