use Rattle.std.proofs.Common.{◌≡◌, Err, IfErr, sym, subst}
use Rattle.otel_otlp.specs.HttpConfig.{IfHeader, IsRefusedBy}
use Rattle.otel_otlp.proofs.HttpDelivery.{is_error}
use Rattle.otel_otlp.proofs.otlp_http.config.OtlpHttpConfig.with_header.Goals as goal

pub returns-in_err-put_header-clause-refused : goal.returns-in_err-put_header-clause-refused
returns-in_err-put_header-clause-refused c =
    let e = c.in_err-put_header.field-0.0 in
    let failed : c.from_residual.result ≡ Err e = is_error c.from_residual.result e c.from_residual.ensures.1 in
    subst (λ r. IfErr r (IfHeader (IsRefusedBy c.args.self.headers c.args.name.now c.args.value.now))) (sym failed)
    (rw (← c.self.view_is) c.in_err-put_header.ensures.refused)
