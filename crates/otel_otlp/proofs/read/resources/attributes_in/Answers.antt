use Rattle.std.proofs.Common.{◌≡◌, [], MatchOption, sym, subst}
use Rattle.otel_otlp.specs.ReadGroups.{IsResource}
use Rattle.otel_otlp.proofs.read.resources.attributes_in.Goals as goal

pub returns-in-Err-clause-err : goal.returns-in-Err-clause-err
returns-in-Err-clause-err c =
    λ no xs h.
    c.in-Err.ensures.err (c.within.ensures.refusal no) xs
    (subst (λ o. MatchOption o (xs ≡ []) (λ given. IsResource given xs)) (sym c.in-Some.ensures) h)
