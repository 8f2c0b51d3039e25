use Rattle.otel_otlp.proofs.ReadErrors.{passed}
use Rattle.otel_otlp.proofs.read.records.record_in.Goals as goal

pub returns-in_err-moment-clause-err : goal.returns-in_err-moment-clause-err
returns-in_err-moment-clause-err c =
    passed _ _ _ c.from_residual-in_err-moment.ensures.1
    (λ no r h.
    c.in_err-moment.ensures.err no r.timestamp r.observed_timestamp r.severity_number h.moment)

pub returns-in_err-words-clause-err : goal.returns-in_err-words-clause-err
returns-in_err-words-clause-err c =
    passed _ _ _ c.from_residual-in_err-words.ensures.1
    (λ no r h. c.in_err-words.ensures.err no r.severity_text r.event_name r.body h.words)

pub returns-in_err-details-clause-err : goal.returns-in_err-details-clause-err
returns-in_err-details-clause-err c =
    passed _ _ _ c.from_residual-in_err-details.ensures.1
    (λ no r h.
    c.in_err-details.ensures.err no r.attributes r.target r.dropped_attributes h.details)

pub returns-in_err-active-clause-err : goal.returns-in_err-active-clause-err
returns-in_err-active-clause-err c =
    passed _ _ _ c.from_residual-in_err-active.ensures.1
    (λ no r h. c.in_err-active.ensures.err no r.trace_context h.active)
