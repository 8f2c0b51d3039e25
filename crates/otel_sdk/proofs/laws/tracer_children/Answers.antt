use Rattle.otel_sdk.proofs.ParentLemmas.{build-under}
use Rattle.otel_sdk.proofs.laws.tracer_children.Goals as goal

pub returns : goal.returns
returns g c = λ answer random generator limits scope builder parent span. build-under answer random (g.G.IdGenerator.may_trace generator) (g.G.IdGenerator.may_span generator) g.C.TracerCalls.may_show g.C.TracerCalls.is_counted limits scope builder parent span g.C.TracerCalls.is_read
