use Rattle.std.proofs.Common.{refl, ap}
use Rattle.otel_context.specs.BaggageView.{entry_members}
use Rattle.otel_context.proofs.BaggageTurns.{none_fails}
use Rattle.otel_context.proofs.baggage.Baggage.from_pairs.Goals as goal

pub returns-in_err-insert_with_metadata-clause-none_accepted : goal.returns-in_err-insert_with_metadata-clause-none_accepted
returns-in_err-insert_with_metadata-clause-none_accepted c = λ none.
    none_fails c.from_residual.result _ _ _ _ _ _ _ c.loop-key.invariant (ap entry_members c.in-Some.ensures.steps.0) refl c.in_err-insert_with_metadata.ensures.err_accepted none
