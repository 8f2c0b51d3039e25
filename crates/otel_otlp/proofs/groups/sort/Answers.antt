use Rattle.std.proofs.Common.{◌∙◌, ap, arith}
use Rattle.otel_otlp.specs.Sorted.{put_in_group}
use Rattle.otel_otlp.specs.SortedView.{groups_view}
use Rattle.otel_otlp.proofs.Sorting.{sort-turn}
use Rattle.otel_otlp.proofs.groups.sort.Goals as goal

pub loop-item-preserved : goal.loop-item-preserved
loop-item-preserved g c =
    let form = g.R.Grouped.form in
    let groups = groups_view form.value_of c.loop-item.groups.entries in
    let item = c.item-item.result in
    c.in_ok-put_in_group.ensures
    ∙ ap (λ s. put_in_group groups s (form.value_of item)) c.scope.ensures
    ∙ sort-turn form.scope_of form.value_of groups c.args.batch.now c.loop-item.item-index item c.loop-item.invariant (omega (arith, c.loop-item-test.true)) c.item-item.is
