use Rattle.std.proofs.Common.{ap}
use Rattle.opentelemetry.specs.Carrier.{text_map}
use Rattle.otel_carry.proofs.OutcomeLemmas.{ends_by_run}
use Rattle.otel_carry.proofs.carry.write_result.Goals as goal

pub returns-in-Ok-clause-ends : goal.returns-in-Ok-clause-ends
returns-in-Ok-clause-ends g c =
    ends_by_run _ _ _ _ _ c.in-Ok.report.injected _ _ _ _ _ (ap text_map c.new-carrier.ensures.empty)
    c.in-Ok.ensures.good c.in-Ok.ensures.run c.write_run.ensures.status c.write_run.ensures.injected c.write_run.ensures.written
