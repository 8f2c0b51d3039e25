use Rattle.otel_otlp.proofs.HttpLosses.{records-counted, shutdown-keeps}
use Rattle.otel_otlp.proofs.laws.records_are_counted.Goals as goal

pub returns-clause-counted : goal.returns-clause-counted
returns-clause-counted g c = records-counted

pub returns-clause-kept : goal.returns-clause-kept
returns-clause-kept g c = λ name s. shutdown-keeps g.C.HttpClient.sent g.C.HttpClient.answers g.K.ClockCalls.shows name s
