use Rattle.std.proofs.Common.{arith, refl, false}
use Rattle.std.proofs.lemmas.Result.{err_from_is_err_and}
use Rattle.opentelemetry.proofs.shared.Setting.{sets_nothing, more_all, injects_all}
use Rattle.otel_sdk.specs.ConfiguredPropagator.{pairs_by}
use Rattle.otel_sdk.proofs.ListedFields.{injects_until_none}
use Rattle.otel_sdk.proofs.env.configured.inject_all.Goals as goal

pub loop-member-init : goal.loop-member-init
loop-member-init g c = record { sets = sets_nothing _; count = omega arith }

pub loop-member-preserved : goal.loop-member-preserved
loop-member-preserved g c = record {
  sets = more_all (λ name. pairs_by name c.args.context.now) _ _ _ _ _ _ c.loop-member-test.true c.member-item.is c.loop-member.invariant.sets c.in_ok-inject_context.ensures.ok;
  count = omega (arith, c.inject_context.ensures.count, c.loop-member.invariant.count);
}

pub returns-in_err-inject_context : goal.returns-in_err-inject_context
returns-in_err-inject_context g c =
    let p = err_from_is_err_and c.from_residual.result c.from_residual.ensures.1 in
    rw (p.1, p.2)
    (injects_until_none (λ name. pairs_by name c.args.context.now) c.args.members.now _ _ _ _ _ _ c.loop-member-test.true c.member-item.is c.loop-member.invariant.sets c.loop-member.invariant.count c.in_err-inject_context.ensures)

pub returns : goal.returns
returns g c =
    injects_all (λ name. pairs_by name c.args.context.now) false c.args.members.now c.args.members.now _ _ _ _ refl c.loop-member-test.false c.loop-member.invariant.sets c.loop-member.invariant.count
