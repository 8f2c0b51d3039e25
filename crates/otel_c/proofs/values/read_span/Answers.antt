use Rattle.otel_c.proofs.Given.{reads_span}
use Rattle.otel_c.proofs.values.read_span.Goals as goal

pub returns-clause-read : goal.returns-clause-read
returns-clause-read c = reads_span c.extract_span.result _ _ _ _
    c.in_ok-traceparent.ensures.text c.in_ok-tracestate.ensures.text
    c.in_ok-traceparent.ensures.readable c.in_ok-tracestate.ensures.readable
    c.extract_span.ensures.read
