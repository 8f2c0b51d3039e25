use Rattle.std.proofs.Common.{◌∙◌, ap}
use Rattle.otel_c.specs.Span.{parts_of}
use Rattle.otel_c.proofs.span.span.Goals as goal

pub returns-clause-parts : goal.returns-clause-parts
returns-clause-parts c = record {
  context = c.in_ok-context.context;
  from = c.in_ok-context.ensures.copy;
  parts = c.of.ensures ∙ ap parts_of c.span_context.ensures;
}
