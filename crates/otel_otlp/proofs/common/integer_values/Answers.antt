use Rattle.std.proofs.Common.{arith, pos, subst, w64, get_or, rules}
use mir.Val.{SFits}
use Rattle.std.proofs.lemmas.Int.{to_z-of_z}
use Rattle.otel_otlp.specs.Common.{integer_value}
use Rattle.otel_otlp.specs.Tokens.{HasValue}
use Rattle.otel_otlp.proofs.Tokens.{next_at}
use Rattle.otel_otlp.proofs.common.integer_values.Goals as goal

pub loop-item-preserved : goal.loop-item-preserved
loop-item-preserved c =
    let fits : SFits w64 (get_or c.args.items.now c.loop-item.item-index (pos 0)) = search rules in
    let z = get_or c.args.items.now c.loop-item.item-index (pos 0) in
    next_at integer_value c.args.items.now c.loop-item.item-index (pos 0) (omega (arith, c.loop-item-test.true)) c.loop-item.invariant
    (subst (λ y. HasValue c.loop-item.out c.integer_value.new.out (integer_value y)) (to_z-of_z w64 z fits) c.in_ok-integer_value.ensures)
