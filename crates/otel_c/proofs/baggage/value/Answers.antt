use Rattle.std.proofs.Common.{◌∙◌, ap}
use Rattle.otel_c.specs.Baggage.{value_of}
use Rattle.otel_c.proofs.Shown.{shows, named_none}
use Rattle.otel_c.proofs.baggage.value.Goals as goal

pub returns-clause-value : goal.returns-clause-value
returns-clause-value c = shows _ _ c.in_ok-context.ensures.copy c.write_found.result
    (λ x. value_of x c.args.key.now) _ _ _ _
    (c.value_of.ensures
    ∙ ap (λ k. value_of c.in_ok-context.context k) c.in_ok-key.ensures.text)
    c.write_found.ensures.text

pub returns-clause-refused : goal.returns-clause-refused
returns-clause-refused c = named_none _ _ c.in_ok-context.ensures.copy c.write_found.result
    (λ x. value_of x c.args.key.now) c.args.key.now _ _ _
    (c.value_of.ensures
    ∙ ap (λ k. value_of c.in_ok-context.context k) c.in_ok-key.ensures.text)
    c.write_found.ensures.refused
