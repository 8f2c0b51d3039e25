use Rattle.std.proofs.Common.{arith, refl, ap, ◌∙◌, length}
use Rattle.std.proofs.lemmas.Result.{err_from_is_err_and}
use Rattle.opentelemetry.proofs.shared.Setting.{sets_nothing, more_all, injects_all, injects_until}
use Rattle.opentelemetry.proofs.propagation.composite.TextMapCompositePropagator.inject_context.Goals as goal

pub loop-member-init : goal.loop-member-init
loop-member-init g c = record { sets = sets_nothing _; count = omega arith; untouched = λ none. refl }

pub loop-member-preserved : goal.loop-member-preserved
loop-member-preserved g c = record {
  sets = more_all _ _ _ _ _ _ _ c.loop-member-test.true c.member-item.is c.loop-member.invariant.sets c.in_ok-inject_member.ensures.ok;
  count = omega (arith, c.inject_member.ensures.count, c.loop-member.invariant.count);
  untouched = λ none. absurd (omega (arith, c.loop-member-test.true, ap length none));
}

pub returns-in_err-inject_member-clause-injected : goal.returns-in_err-inject_member-clause-injected
returns-in_err-inject_member-clause-injected g c =
    let p = err_from_is_err_and c.from_residual.result c.from_residual.ensures.1 in
    rw (p.1, p.2)
    (injects_until _ _ _ _ _ _ _ _ _ _ c.deref-member-items.ensures.value c.loop-member-test.true c.member-item.is c.loop-member.invariant.sets c.loop-member.invariant.count c.in_err-inject_member.ensures)

pub returns-clause-injected : goal.returns-clause-injected
returns-clause-injected g c =
    injects_all _ _ _ _ _ _ _ _ c.deref-member-items.ensures.value c.loop-member-test.false c.loop-member.invariant.sets c.loop-member.invariant.count

pub returns-clause-without_members : goal.returns-clause-without_members
returns-clause-without_members g c = λ none. (refl, c.loop-member.invariant.untouched (c.deref-member-items.ensures.value ∙ none))
