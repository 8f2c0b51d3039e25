use Rattle.std.proofs.Common.{Some, ap, refl, subst}
use Rattle.otel_http.specs.Headers.{Headers, texts}
use Rattle.otel_c.specs.declared.object.Object.{Object}
use Rattle.otel_c.specs.Context.{SetsBoth}
use Rattle.otel_c.specs.Object.{headers_of}
use Rattle.otel_c.proofs.Carried.{injects}
use Rattle.otel_c.proofs.context.inject_in.Goals as goal

pub returns-in_ok-inject_all-in-Headers-clause-headers :
    goal.returns-in_ok-inject_all-in-Headers-clause-headers
returns-in_ok-inject_all-in-Headers-clause-headers c =
    let context = c.in_ok-context.context.now in
    let after = c.inject_all.new.injector.headers in
    injects _ _ _ _ _ _ c.in_ok-context.ensures.context
    (ap (λ (o : Object). headers_of (Some o)) c.in-Headers.is) refl
    (subst (λ (h : Headers). SetsBoth context (texts h) (texts after)) c.clear.ensures
    c.in_ok-inject_all-in-Headers.ensures.written)
