use Rattle.std.proofs.Common.{◌≡◌, take}
use Rattle.opentelemetry.specs.Clock.{within_u64}
use Rattle.otel_otlp.specs.HttpPart.{count_waiting}
use Rattle.otel_otlp.proofs.otlp_http.outbox.Outbox.count.Given as goal

-- the items of the parts so far are counted
abbrev pub invariant-loop-part : goal.invariant-loop-part
invariant-loop-part g l = l.count ≡ within_u64 (count_waiting (take l.part-index l.self.waiting))
