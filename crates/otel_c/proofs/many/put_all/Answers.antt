use Rattle.otel_c.proofs.Puts.{puts_next}
use Rattle.otel_c.proofs.many.put_all.Goals as goal

pub loop-position-preserved : goal.loop-position-preserved
loop-position-preserved c =
    puts_next _ _ _ _ c.loop-position.position _ c.loop-position-test.true
    c.loop-position.invariant c.in_ok-put_texts.ensures.put
