use Rattle.std.proofs.Common.{sym, subst, ◌∙◌}
use Rattle.serde_json.specs.View.{view}
use Rattle.otel_otlp.specs.ReadGroups.{HasScope}
use Rattle.otel_otlp.proofs.ReadErrors.{passed, some_same}
use Rattle.otel_otlp.proofs.read.groups.ScopeGroupMessage.read.Goals as goal

pub returns-in_err-scope-clause-err : goal.returns-in_err-scope-clause-err
returns-in_err-scope-clause-err g c =
    let d = view c.args.value.now in
    passed _ _ _ c.from_residual-in_err-scope.ensures.1
    (λ no ss h.
    c.in_err-scope.ensures.err no h.scope
    (subst (λ url. HasScope url d h.scope)
    (some_same _ _ (sym h.has_url ∙ c.in_ok-url.ensures.ok)) h.has_scope))

pub returns-in_err-items-clause-err : goal.returns-in_err-items-clause-err
returns-in_err-items-clause-err g c =
    passed _ _ _ c.from_residual-in_err-items.ensures.1
    (λ no ss h. c.in_err-items.ensures.err no ss h.items)
