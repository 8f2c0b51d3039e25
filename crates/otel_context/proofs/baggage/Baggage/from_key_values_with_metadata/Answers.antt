use Rattle.std.proofs.Common.{refl}
use Rattle.otel_context.proofs.BaggageTurns.{none_fails}
use Rattle.otel_context.proofs.baggage.Baggage.from_key_values_with_metadata.Goals as goal

pub returns-in_err-insert_member-clause-none_accepted : goal.returns-in_err-insert_member-clause-none_accepted
returns-in_err-insert_member-clause-none_accepted c = λ none.
    none_fails c.from_residual.result _ _ _ _ _ _ _ c.loop-member.invariant c.in-Some.ensures.steps.0 refl c.in_err-insert_member.ensures.err_accepted none
