use Rattle.std.proofs.Common.{◌∙◌, List, ℕ, ap}
use Rattle.otel_context.specs.Baggage.{remove}
use Rattle.otel_context.specs.Context.{with_baggage}
use Rattle.otel_propagators.specs.BaggagePropagator.{members}
use Rattle.otel_c.proofs.member.remove_in.Goals as goal

pub returns-clause-context : goal.returns-clause-context
returns-clause-context c =
    let context = c.in_ok-context.context in
    record {
      context = context;
      from = c.in_ok-context.ensures.copy;
      is = c.in_ok-without_member.ensures
          ∙ ap (λ (key : List ℕ). with_baggage context (remove (members context) key))
          c.in_ok-key.ensures.text;
    }
