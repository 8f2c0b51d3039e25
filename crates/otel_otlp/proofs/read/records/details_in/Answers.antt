use Rattle.otel_otlp.proofs.ReadErrors.{passed}
use Rattle.otel_otlp.proofs.read.records.details_in.Goals as goal

pub returns-in_err-given-clause-err : goal.returns-in_err-given-clause-err
returns-in_err-given-clause-err c =
    passed _ _ _ c.from_residual.ensures.1
    (λ no xs target n h. c.in_err-given.ensures.err no h.given h.has_given)
