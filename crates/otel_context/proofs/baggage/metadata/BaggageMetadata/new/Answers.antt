use Rattle.std.proofs.Common.{sym, subst, ◌∙◌}
use Rattle.otel_context.specs.BaggageText.{IsTrimmed}
use Rattle.otel_context.proofs.shared.BaggageTrims.{trim_twice}
use Rattle.otel_context.proofs.baggage.metadata.BaggageMetadata.new.Goals as goal

pub invariant_of-result : goal.invariant_of-result
invariant_of-result c = subst IsTrimmed (sym (c.from.ensures ∙ c.in_ok-trimmed.ensures.ok ∙ c.trim.ensures.trim)) (trim_twice c.args.text.now c.utf8.text)
