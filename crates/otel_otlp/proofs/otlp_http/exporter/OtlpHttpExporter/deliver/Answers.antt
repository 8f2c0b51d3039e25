use Rattle.std.proofs.Common.{◌≡◌, Err, ap, length, arith}
use Rattle.otel_otlp.proofs.HttpDelivery.{goes_on, stops, ends, is_error}
use Rattle.otel_otlp.proofs.otlp_http.exporter.OtlpHttpExporter.deliver.Goals as goal

pub loop-self-preserved : goal.loop-self-preserved
loop-self-preserved g c =
    goes_on g.C.HttpClient.sent g.C.HttpClient.answers g.K.ClockCalls.shows g.R.Signal.rejected_member c.args.self.now c.loop-self.self c.deliver_first.new.self
    c.loop-self.invariant c.in_ok-deliver_first.ensures.ok

pub returns-in_err-deliver_first : goal.returns-in_err-deliver_first
returns-in_err-deliver_first g c =
    let failed : c.from_residual.result ≡ Err c.in_err-deliver_first.field-0.0 =
    is_error c.from_residual.result c.in_err-deliver_first.field-0.0 c.from_residual.ensures.1 in
    stops g.C.HttpClient.sent g.C.HttpClient.answers g.K.ClockCalls.shows g.R.Signal.rejected_member c.args.self.now c.loop-self.self c.deliver_first.new.self
    c.in_err-deliver_first.field-0.0 c.from_residual.result c.loop-self.invariant c.in_err-deliver_first.ensures.err failed

pub returns : goal.returns
returns g c =
    let seen = ap (λ s. length s.outbox.waiting) c.self.view_is in
    ends g.C.HttpClient.sent g.C.HttpClient.answers g.K.ClockCalls.shows g.R.Signal.rejected_member c.args.self.now c.loop-self.self c.loop-self.invariant
    (omega (arith, c.loop-self-test.false, c.len.ensures, seen))
