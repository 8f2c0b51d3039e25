use Rattle.std.proofs.Common.{sym, subst}
use Rattle.otel_context.specs.BaggageText.{IsTrimmed}
use Rattle.otel_context.proofs.shared.BaggageTrims.{cut_nil}
use Rattle.otel_context.proofs.baggage.metadata.BaggageMetadataDefault.default.Goals as goal

pub invariant_of-result : goal.invariant_of-result
invariant_of-result c = subst IsTrimmed (sym c.from.ensures) cut_nil
