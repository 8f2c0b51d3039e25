use Rattle.otel_c.proofs.Refusals.{succeeds}
use Rattle.otel_c.proofs.values.otel_span_from_values.Goals as goal

pub returns-clause-span : goal.returns-clause-span
returns-clause-span c = succeeds _ _ _ c.code.ensures c.span_from_values.ensures.span
