use Rattle.std.proofs.Common.{refl, rules}
use Rattle.otel_sdk_base.specs.QueueView.{state}
use Rattle.otel_sdk.specs.Processor.{BatchState, HasReceived}
use Rattle.otel_sdk.proofs.Received.{account_from, received-told}
use Rattle.otel_sdk.proofs.trace.processor.batch.BatchSpanProcessorSpanProcessor.set_resource.Goals as goal

pub returns-in_ok-clone-clause-account : goal.returns-in_ok-clone-clause-account
returns-in_ok-clone-clause-account g c =
    let old : BatchState _ = record { queue = state c.self.inside.queue; given = c.self.inside.given.items; skips = c.self.inside.skips } in
    let new : BatchState _ = record { queue = state c.set_resource.new.self; given = c.self.inside.given.items; skips = c.self.inside.skips } in
    account_from (HasReceived g.E.Exporter.accepted g.E.Exporter.calls)
    (λ ended. HasReceived g.E.Exporter.accepted g.E.Exporter.calls new ended) _ old (search rules)
    (received-told g.E.Exporter.accepted g.E.Exporter.calls old new _ (search rules) (c.set_resource.ensures.0, refl, refl))
