use Rattle.std.proofs.Common.{arith, rules}
use Rattle.otel_carry.proofs.ReportLemmas.{outcomes_more, outcomes_all}
use Rattle.otel_carry.proofs.report.write_outcomes.Goals as goal

pub loop-number-preserved : goal.loop-number-preserved
loop-number-preserved g c =
    outcomes_more c.args.outcomes.now c.loop-number.number _ _ _ _ c.in_ok-write_outcome.ensures (search rules) c.loop-number-test.true c.loop-number.invariant

pub returns : goal.returns
returns g c =
    outcomes_all c.args.outcomes.now c.loop-number.number _ _ (omega (arith, c.loop-number-test.false)) c.loop-number.invariant
