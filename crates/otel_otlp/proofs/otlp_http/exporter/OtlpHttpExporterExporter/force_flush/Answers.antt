use Rattle.otel_otlp.proofs.HttpDelivery.{tries_keeps}
use Rattle.otel_otlp.proofs.otlp_http.exporter.OtlpHttpExporterExporter.force_flush.Goals as goal

pub returns-clause-same : goal.returns-clause-same
returns-clause-same g c =
    (tries_keeps g.C.HttpClient.sent g.C.HttpClient.answers g.K.ClockCalls.shows g.R.Signal.rejected_member c.args.self.now c.try_waiting.result c.try_waiting.new.self
    c.try_waiting.ensures).accepted

pub returns-clause-accounted : goal.returns-clause-accounted
returns-clause-accounted g c =
    (tries_keeps g.C.HttpClient.sent g.C.HttpClient.answers g.K.ClockCalls.shows g.R.Signal.rejected_member c.args.self.now c.try_waiting.result c.try_waiting.new.self
    c.try_waiting.ensures).accounted
