use Rattle.std.proofs.Common.{refl}
use Rattle.otel_http.proofs.Written.{no_line, one_line}
use Rattle.otel_http.proofs.injector.HeaderInjectorDisplay.fmt.Goals as goal

pub loop-name-init : goal.loop-name-init
loop-name-init g c = λ plain. no_line g.W.Write.write_str_gives _ _ _ c.into_iter-name-iterator.ensures.into_iter_gives.0 plain

pub loop-name-preserved : goal.loop-name-preserved
loop-name-preserved g c = λ plain.
    let begun = c.loop-name.invariant plain in
    one_line g.W.Write.write_str_gives _ _ _ _ _ _ _ c.in-Some.ensures.steps begun (c.in_ok-write_line.ensures begun.wrote.plain refl)
