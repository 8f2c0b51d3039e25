use Rattle.otel_otlp.proofs.ReadErrors.{passed}
use Rattle.otel_otlp.proofs.read.spans.SpanDataItem.read.Goals as goal

pub returns-in_err-identity-clause-err : goal.returns-in_err-identity-clause-err
returns-in_err-identity-clause-err c =
    passed _ _ _ c.from_residual-in_err-identity.ensures.1
    (λ no s h.
    c.in_err-identity.ensures.err no s.span_context s.parent_span_id s.parent_span_is_remote
    h.identity)

pub returns-in_err-work-clause-err : goal.returns-in_err-work-clause-err
returns-in_err-work-clause-err c =
    passed _ _ _ c.from_residual-in_err-work.ensures.1
    (λ no s h.
    c.in_err-work.ensures.err no s.name s.span_kind s.start_time s.end_time s.status h.work)

pub returns-in_err-given-clause-err : goal.returns-in_err-given-clause-err
returns-in_err-given-clause-err c =
    passed _ _ _ c.from_residual-in_err-given.ensures.1
    (λ no s h. c.in_err-given.ensures.err no s.attributes h.attributes)

pub returns-in_err-dropped-clause-err : goal.returns-in_err-dropped-clause-err
returns-in_err-dropped-clause-err c =
    passed _ _ _ c.from_residual-in_err-dropped.ensures.1
    (λ no s h. c.in_err-dropped.ensures.err no s.dropped_attributes h.dropped)

pub returns-in_err-events-clause-err : goal.returns-in_err-events-clause-err
returns-in_err-events-clause-err c =
    passed _ _ _ c.from_residual-in_err-events.ensures.1
    (λ no s h. c.in_err-events.ensures.err no s.events s.dropped_events h.events)

pub returns-in_err-links-clause-err : goal.returns-in_err-links-clause-err
returns-in_err-links-clause-err c =
    passed _ _ _ c.from_residual-in_err-links.ensures.1
    (λ no s h. c.in_err-links.ensures.err no s.links s.dropped_links h.links)
