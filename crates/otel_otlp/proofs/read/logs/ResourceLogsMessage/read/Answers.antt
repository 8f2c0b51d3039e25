use Rattle.otel_otlp.proofs.ReadErrors.{passed}
use Rattle.otel_otlp.proofs.read.logs.ResourceLogsMessage.read.Goals as goal

pub returns-in_err-resource-clause-err : goal.returns-in_err-resource-clause-err
returns-in_err-resource-clause-err c =
    passed _ _ _ c.from_residual-in_err-resource.ensures.1
    (λ no g h. c.in_err-resource.ensures.err no g.resource h.resource)

pub returns-in_err-records-clause-err : goal.returns-in_err-records-clause-err
returns-in_err-records-clause-err c =
    passed _ _ _ c.from_residual-in_err-records.ensures.1
    (λ no g h. c.in_err-records.ensures.err no g.items h.items)
