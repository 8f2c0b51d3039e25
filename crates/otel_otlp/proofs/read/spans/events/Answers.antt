use Rattle.otel_otlp.proofs.ReadErrors.{passed}
use Rattle.otel_otlp.proofs.read.spans.events.Goals as goal

pub returns-in_err-events-clause-err : goal.returns-in_err-events-clause-err
returns-in_err-events-clause-err c =
    passed _ _ _ c.from_residual.ensures.1
    (λ no es n h. c.in_err-events.ensures.err no es h.events)
