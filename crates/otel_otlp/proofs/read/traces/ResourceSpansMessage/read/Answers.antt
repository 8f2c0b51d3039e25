use Rattle.otel_otlp.proofs.ReadErrors.{passed}
use Rattle.otel_otlp.proofs.read.traces.ResourceSpansMessage.read.Goals as goal

pub returns-in_err-resource-clause-err : goal.returns-in_err-resource-clause-err
returns-in_err-resource-clause-err c =
    passed _ _ _ c.from_residual-in_err-resource.ensures.1
    (λ no g h. c.in_err-resource.ensures.err no g.resource h.resource)

pub returns-in_err-spans-clause-err : goal.returns-in_err-spans-clause-err
returns-in_err-spans-clause-err c =
    passed _ _ _ c.from_residual-in_err-spans.ensures.1
    (λ no g h. c.in_err-spans.ensures.err no g.items h.items)
