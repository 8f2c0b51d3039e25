use Rattle.otel_c.specs.Baggage.{key_at}
use Rattle.otel_c.proofs.Shown.{shows, shows_none}
use Rattle.otel_c.proofs.baggage.key.Goals as goal

pub returns-clause-key : goal.returns-clause-key
returns-clause-key c = shows _ _ c.in_ok-context.ensures.copy c.write_found.result
    (λ x. key_at x c.args.position) _ _ _ _ c.key_at.ensures c.write_found.ensures.text

pub returns-clause-refused : goal.returns-clause-refused
returns-clause-refused c = shows_none _ _ c.in_ok-context.ensures.copy c.write_found.result
    (λ x. key_at x c.args.position) _ _ _ c.key_at.ensures c.write_found.ensures.refused
