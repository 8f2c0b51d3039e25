use Rattle.std.proofs.Common.{ap, map}
use Rattle.otel_context.specs.KeyValueMetadata.{from_key_value}
use Rattle.otel_context.proofs.BaggageTurns.{none_fails}
use Rattle.otel_context.proofs.baggage.Baggage.from_key_values.Goals as goal

pub returns-in_err-insert_member-clause-none_accepted : goal.returns-in_err-insert_member-clause-none_accepted
returns-in_err-insert_member-clause-none_accepted c = λ none texts.
    none_fails c.from_residual-in_err-insert_member.result _ _ _ _ _ _ _ c.loop-attribute.invariant (ap (map from_key_value) c.in-Some.ensures.steps.0) c.in_ok-member.ensures.member c.in_err-insert_member.ensures.err_accepted none
