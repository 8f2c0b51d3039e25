use Rattle.std.proofs.Common.{◌≡◌, ℕ, ◌++◌, Option, subst, codes}
use Rattle.otel_sdk.specs.EnvTexts.{number_warnings, limit_warnings, variables_of}
use Rattle.otel_sdk.proofs.EnvLemmas.{then_more}
use Rattle.otel_sdk.proofs.env.limits.span_limits.Goals as goal

pub returns-clause-warnings : goal.returns-clause-warnings
returns-clause-warnings c =
    let vars = variables_of c.args.vars.now in
    let attributes = subst (λ (n : ℕ). c.number_or-2.new.warnings.items ≡ c.number_or.new.warnings.items
    ++ number_warnings (codes "OTEL_SPAN_ATTRIBUTE_COUNT_LIMIT") 0 n vars)
    c.requires.count c.in_ok-attributes.ensures.warnings in
    let length = subst (λ (n : Option ℕ). c.limit_or.new.warnings.items ≡ c.number_or-5.new.warnings.items
    ++ limit_warnings (codes "OTEL_SPAN_ATTRIBUTE_VALUE_LENGTH_LIMIT") n vars)
    c.requires.length c.in_ok-length.ensures.warnings in
    let to_2 = then_more _ _ _ c.number_or.new.warnings.items c.number_or-2.new.warnings.items c.in_ok-events.ensures.warnings attributes in
    let to_3 = then_more _ _ _ c.number_or-2.new.warnings.items c.number_or-3.new.warnings.items to_2 c.in_ok-links.ensures.warnings in
    let to_4 = then_more _ _ _ c.number_or-3.new.warnings.items c.number_or-4.new.warnings.items to_3 c.in_ok-of_event.ensures.warnings in
    let to_5 = then_more _ _ _ c.number_or-4.new.warnings.items c.number_or-5.new.warnings.items to_4 c.in_ok-of_link.ensures.warnings in
    then_more _ _ _ c.number_or-5.new.warnings.items c.limit_or.new.warnings.items to_5 length
