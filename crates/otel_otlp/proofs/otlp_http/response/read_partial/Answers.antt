use Rattle.std.proofs.Common.{◌≡◌, ◌≢◌, [], ◌==◌, false, length, Some, sym, ◌∙◌, subst, true≢false}
use Rattle.otel_otlp.specs.HttpResponse.{IsJsonOf}
use Rattle.otel_otlp.proofs.Responses.{by_value}
use Rattle.otel_otlp.proofs.otlp_http.response.read_partial.Goals as goal

pub returns-in-Some-clause-read : goal.returns-in-Some-clause-read
returns-in-Some-clause-read c =
    let body = c.args.body.now in
    let some : (length body == 0) ≡ false = sym c.is_empty.ensures ∙ c.if-is_empty.false in
    by_value c.args.name.now body c.in-Some.value c.read_object.result
    (λ e. true≢false (subst (λ b. (length b == 0) ≡ false) e some))
    (subst (IsJsonOf body) c.in-Some.is c.in_ok-value.ensures)
    c.read_object.ensures
