use Rattle.std.proofs.Common.{◌≡◌, [], ◌∷◌, ◌++◌, rules, subst}
use Rattle.otel_sdk.specs.Processor.{BatchState, HasReceived, simple_calls}
use Rattle.otel_sdk.proofs.Received.{account_from}
use Rattle.otel_sdk.proofs.trace.processor.simple.SimpleSpanProcessorSpanProcessor.on_end.Goals as goal

pub returns-clause-ends : goal.returns-clause-ends
returns-clause-ends g c =
    let same : c.self.inside.inner ≡ c.args.self.now = search rules in
    subst (λ (p : BatchState _). (simple_calls g.E.Exporter.accepted g.E.Exporter.calls).ends p c.args.span c.force_flush.new.self) same
    (c.collect.new.self, c.collect.ensures.queued, c.force_flush.result, c.force_flush.ensures.flushes)

pub returns-clause-account : goal.returns-clause-account
returns-clause-account g c = account_from (HasReceived g.E.Exporter.accepted g.E.Exporter.calls)
    (λ ended. HasReceived g.E.Exporter.accepted g.E.Exporter.calls c.force_flush.new.self (ended ++ c.args.span ∷ [])) _
    c.self.inside.inner (search rules) (λ spans h. c.force_flush.ensures.account _ (c.collect.ensures.account spans h))
