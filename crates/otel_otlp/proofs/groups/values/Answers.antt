use Rattle.std.proofs.Common.{arith, subst}
use Rattle.std.proofs.lemmas.List.{take_all}
use Rattle.otel_otlp.specs.Tokens.{HasItems}
use Rattle.otel_otlp.proofs.SortedEntries.{values_of}
use Rattle.otel_otlp.proofs.Tokens.{next_item}
use Rattle.otel_otlp.proofs.groups.values.Goals as goal

pub loop-item-preserved : goal.loop-item-preserved
loop-item-preserved g c =
    let form = g.R.Grouped.form in
    next_item (λ r. form.value_of r.now) c.args.items.now c.loop-item.item-index c.item-item.result (omega (arith, c.loop-item-test.true)) c.item-item.is
    c.loop-item.invariant c.in_ok-write.ensures

pub returns : goal.returns
returns g c =
    subst (λ items. HasItems c.args.out.now c.loop-item.out (values_of g.R.Grouped.form.value_of items))
    (take_all c.loop-item.item-index c.args.items.now (omega (arith, c.loop-item-test.false)))
    c.loop-item.invariant
