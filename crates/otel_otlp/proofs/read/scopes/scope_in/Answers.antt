use Rattle.std.proofs.Common.{◌≡◌, MatchOption, sym, subst}
use Rattle.otel_otlp.specs.ReadGroups.{IsScope, nameless}
use Rattle.otel_otlp.proofs.read.scopes.scope_in.Goals as goal

pub returns-in-Err-clause-err : goal.returns-in-Err-clause-err
returns-in-Err-clause-err c =
    let url = c.args.url in
    λ no s h.
    c.in-Err.ensures.err (c.within.ensures.refusal no) s
    (subst (λ o. MatchOption o (s ≡ nameless url) (λ given. IsScope url given s))
    (sym c.in-Some.ensures) h)
