use Rattle.std.proofs.Common.{ap}
use Rattle.otel_c.specs.Span.{parent_header, traceparent_of}
use Rattle.otel_c.proofs.Parent.{shows_no_parent}
use Rattle.otel_c.proofs.Shown.{shows}
use Rattle.otel_c.proofs.traceparent.traceparent.Goals as goal

pub returns-clause-header : goal.returns-clause-header
returns-clause-header c = shows _ _ c.in_ok-context.ensures.copy c.write_parent.result traceparent_of
    _ _ _ _ (ap parent_header c.span_context.ensures) c.write_parent.ensures.header

pub returns-clause-refused : goal.returns-clause-refused
returns-clause-refused c = shows_no_parent c.write_parent.result _ _ c.in_ok-context.ensures.copy _
    c.span_context.ensures _ _ c.write_parent.ensures.refused
