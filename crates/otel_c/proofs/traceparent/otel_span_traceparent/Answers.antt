use Rattle.otel_c.proofs.Parent.{holds_of}
use Rattle.otel_c.proofs.Refusals.{succeeds}
use Rattle.otel_c.proofs.traceparent.otel_span_traceparent.Goals as goal

pub returns-clause-header : goal.returns-clause-header
returns-clause-header c = λ zero. holds_of _ _ c.with_state-span.ensures _ _ _
    (succeeds _ _ _ c.code.ensures c.write_parent.ensures.header zero)
