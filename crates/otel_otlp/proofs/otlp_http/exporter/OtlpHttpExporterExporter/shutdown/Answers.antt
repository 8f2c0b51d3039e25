use Rattle.std.proofs.Common.{◌≡◌, true}
use Rattle.otel_otlp.proofs.HttpDelivery.{tries_keeps, closed_accounted}
use Rattle.otel_otlp.proofs.otlp_http.exporter.OtlpHttpExporterExporter.shutdown.Goals as goal

pub returns-clause-down : goal.returns-clause-down
returns-clause-down g c =
    let closed : c.try_waiting.new.self.is_shut_down ≡ true =
    (tries_keeps g.C.HttpClient.sent g.C.HttpClient.answers g.K.ClockCalls.shows g.R.Signal.rejected_member _ c.try_waiting.result c.try_waiting.new.self c.try_waiting.ensures).closed in
    search

pub returns-clause-accounted : goal.returns-clause-accounted
returns-clause-accounted g c =
    rw (← c.self.view_is)
    (λ is. (tries_keeps g.C.HttpClient.sent g.C.HttpClient.answers g.K.ClockCalls.shows g.R.Signal.rejected_member _ c.try_waiting.result c.try_waiting.new.self
    c.try_waiting.ensures).accounted (closed_accounted _ is))
