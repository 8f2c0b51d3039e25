use Rattle.otel_c.proofs.Copied.{goes_on, ends}
use Rattle.otel_c.proofs.member.copied.Goals as goal

pub loop-key-preserved : goal.loop-key-preserved
loop-key-preserved c = goes_on _ _ _ _ _ _ c.iter-key-items.ensures.baggage
    c.loop-key.invariant c.in-Some.ensures.steps c.in_ok-copy_member.ensures

pub returns : goal.returns
returns c = ends _ _ _ c.loop-key.invariant c.in-None.ensures.steps.0
