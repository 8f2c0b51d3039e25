use Rattle.otel_otlp.proofs.ReadErrors.{passed}
use Rattle.otel_otlp.proofs.read.spans.links.Goals as goal

pub returns-in_err-links-clause-err : goal.returns-in_err-links-clause-err
returns-in_err-links-clause-err c =
    passed _ _ _ c.from_residual.ensures.1
    (λ no ls n h. c.in_err-links.ensures.err no ls h.links)
