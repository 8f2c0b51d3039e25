use Rattle.otel_otlp.proofs.ReadErrors.{passed}
use Rattle.otel_otlp.proofs.read.spans.EventMessage.read.Goals as goal

pub returns-in_err-given-clause-err : goal.returns-in_err-given-clause-err
returns-in_err-given-clause-err c =
    passed _ _ _ c.from_residual-in_err-given.ensures.1
    (λ no e h. c.in_err-given.ensures.err no e.attributes h.attributes)
