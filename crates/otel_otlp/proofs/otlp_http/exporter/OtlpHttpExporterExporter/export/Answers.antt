use Rattle.std.proofs.Common.{◌≡◌, ap, ◌∙◌, sym, subst}
use Rattle.otel_otlp.specs.HttpExporter.{IsAccounted}
use Rattle.otel_otlp.proofs.HttpDelivery.{tries_keeps, accepts, accepts_accepted, accepts_accounted, on_err}
use Rattle.otel_otlp.proofs.otlp_http.exporter.OtlpHttpExporterExporter.export.Goals as goal

pub returns-in_err-try_waiting-clause-err : goal.returns-in_err-try_waiting-clause-err
returns-in_err-try_waiting-clause-err g c =
    on_err c.from_residual.result (c.try_waiting.new.self.accepted ≡ c.args.self.now.accepted)
    (tries_keeps g.C.HttpClient.sent g.C.HttpClient.answers g.K.ClockCalls.shows g.R.Signal.rejected_member c.args.self.now c.try_waiting.result c.try_waiting.new.self c.try_waiting.ensures).accepted

pub returns-in_err-try_waiting-clause-accounted : goal.returns-in_err-try_waiting-clause-accounted
returns-in_err-try_waiting-clause-accounted g c =
    (tries_keeps g.C.HttpClient.sent g.C.HttpClient.answers g.K.ClockCalls.shows g.R.Signal.rejected_member c.args.self.now c.try_waiting.result c.try_waiting.new.self c.try_waiting.ensures).accounted

pub returns-in_err-accept-clause-err : goal.returns-in_err-accept-clause-err
returns-in_err-accept-clause-err g c =
    on_err c.from_residual-in_err-accept.result (c.accept.new.self.accepted ≡ c.args.self.now.accepted)
    (ap (λ s. s.accepted) c.in_err-accept.ensures.err.1
    ∙ (tries_keeps g.C.HttpClient.sent g.C.HttpClient.answers g.K.ClockCalls.shows g.R.Signal.rejected_member c.args.self.now c.try_waiting.result c.try_waiting.new.self c.try_waiting.ensures).accepted)

pub returns-in_err-accept-clause-accounted : goal.returns-in_err-accept-clause-accounted
returns-in_err-accept-clause-accounted g c =
    λ is. subst IsAccounted (sym c.in_err-accept.ensures.err.1)
    ((tries_keeps g.C.HttpClient.sent g.C.HttpClient.answers g.K.ClockCalls.shows g.R.Signal.rejected_member c.args.self.now c.try_waiting.result c.try_waiting.new.self c.try_waiting.ensures).accounted is)

pub returns-clause-ok : goal.returns-clause-ok
returns-clause-ok g c =
    accepts_accepted g.C.HttpClient.sent g.C.HttpClient.answers g.K.ClockCalls.shows g.R.Signal.rejected_member g.R.Grouped.form c.args.batch.now c.args.self.now c.try_waiting-2.new.self
    (accepts g.C.HttpClient.sent g.C.HttpClient.answers g.K.ClockCalls.shows g.R.Signal.rejected_member g.R.Grouped.form c.args.batch.now c.args.self.now c.try_waiting.new.self c.accept.new.self
    c.try_waiting-2.new.self c.in_ok-accept.ensures.ok.0 c.try_waiting-2.result
    c.in_ok-try_waiting.ensures c.in_ok-accept.ensures.ok.1 c.in_ok-accept.ensures.ok.2 c.try_waiting-2.ensures)

pub returns-clause-accepts : goal.returns-clause-accepts
returns-clause-accepts g c =
    accepts g.C.HttpClient.sent g.C.HttpClient.answers g.K.ClockCalls.shows g.R.Signal.rejected_member g.R.Grouped.form c.args.batch.now c.args.self.now c.try_waiting.new.self c.accept.new.self
    c.try_waiting-2.new.self c.in_ok-accept.ensures.ok.0 c.try_waiting-2.result
    c.in_ok-try_waiting.ensures c.in_ok-accept.ensures.ok.1 c.in_ok-accept.ensures.ok.2 c.try_waiting-2.ensures

pub returns-clause-accounted : goal.returns-clause-accounted
returns-clause-accounted g c =
    accepts_accounted g.C.HttpClient.sent g.C.HttpClient.answers g.K.ClockCalls.shows g.R.Signal.rejected_member g.R.Grouped.form c.args.batch.now c.args.self.now c.try_waiting-2.new.self
    (accepts g.C.HttpClient.sent g.C.HttpClient.answers g.K.ClockCalls.shows g.R.Signal.rejected_member g.R.Grouped.form c.args.batch.now c.args.self.now c.try_waiting.new.self c.accept.new.self
    c.try_waiting-2.new.self c.in_ok-accept.ensures.ok.0 c.try_waiting-2.result
    c.in_ok-try_waiting.ensures c.in_ok-accept.ensures.ok.1 c.in_ok-accept.ensures.ok.2 c.try_waiting-2.ensures)
