use Rattle.std.proofs.Common.{length}
use Rattle.otel_otlp.proofs.HttpDelivery.{FollowsFrom}
use Rattle.otel_otlp.proofs.otlp_http.exporter.OtlpHttpExporter.deliver.Given as goal

abbrev pub invariant-loop-self : goal.invariant-loop-self
invariant-loop-self g l = FollowsFrom g.C.HttpClient.sent g.C.HttpClient.answers g.K.ClockCalls.shows g.R.Signal.rejected_member l.initial.self l.self

abbrev pub decreases-loop-self : goal.decreases-loop-self
decreases-loop-self g l = length l.self.outbox.waiting
