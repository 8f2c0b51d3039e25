use Rattle.otel_otlp.proofs.ReadErrors.{passed}
use Rattle.otel_otlp.proofs.read.records.active_in.Goals as goal

pub returns-in_err-flags-clause-err : goal.returns-in_err-flags-clause-err
returns-in_err-flags-clause-err c =
    passed _ _ _ c.from_residual-in_err-flags.ensures.1
    (λ refused active h. c.in_err-flags.ensures.err refused h.flags h.has_flags)
