use Rattle.std.proofs.Common.{ap, map}
use Rattle.otel_base.specs.View.{attribute_of}
use Rattle.otel_context.proofs.SpanEffectLemmas.{set_some_err}
use Rattle.otel_context.proofs.span.Span.set_attributes.Goals as goal

pub returns-in_err-set_attribute-clause-err : goal.returns-in_err-set_attribute-clause-err
returns-in_err-set_attribute-clause-err g c =
    set_some_err _ _ _ c.from_residual.result _ _ _ _ _ _ (ap (map attribute_of) c.in-Some.ensures.steps.0) c.loop-attribute.invariant c.in_err-set_attribute.ensures.err
