use Rattle.std.proofs.Common.{arith}
use Rattle.std.proofs.lemmas.Bool.Decides.{nat_tests}
use Rattle.otel_waterfall.proofs.Lines.{kept_other, kept_space}
use Rattle.otel_waterfall.proofs.line.len_without_last_spaces.Goals.{then-c-ne32, else-c-ne32}
use Rattle.otel_waterfall.proofs.line.len_without_last_spaces.Goals as goal

pub loop-place-preserved : goal.loop-place-preserved
loop-place-preserved c =
    let line = c.args.line.now in
    let place = c.loop-place.place in
    let at = c.index-line-place.is in
    elim c.if-c-ne32.branch [
      | then-c-ne32 w ↦ rw w.kept-is (record {
        few = omega arith;
        kept = kept_other line place c.index-line-place.result c.loop-place-test.true (let h = w.if-c-ne32.true in grind (arith, nat_tests, at, h));
      })
      | else-c-ne32 w ↦ rw w.kept-is (record {
        few = omega (arith, c.loop-place.invariant.few);
        kept = kept_space line place c.index-line-place.result c.loop-place.kept c.loop-place-test.true (let h = w.if-c-ne32.false in grind (arith, nat_tests, at, h)) c.loop-place.invariant.kept;
      })
    ]
