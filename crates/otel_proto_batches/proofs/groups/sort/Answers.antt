use Rattle.std.proofs.Common.{◌∙◌, ap, arith}
use Rattle.otel_proto_batches.specs.Sorted.{put_in_group}
use Rattle.otel_proto_batches.specs.SortedView.{groups_view}
use Rattle.otel_proto_batches.proofs.Sorting.{sort-turn}
use Rattle.otel_proto_batches.proofs.groups.sort.Goals as goal

pub loop-item-preserved : goal.loop-item-preserved
loop-item-preserved g c =
    let groups = groups_view c.loop-item.groups.entries in
    let item = c.item-item.result in
    c.in_ok-put_in_group.ensures
    ∙ ap (λ s. put_in_group groups s item) c.scope.ensures
    ∙ sort-turn g.R.Grouped.form.scope_of groups c.args.batch.now c.loop-item.item-index item c.loop-item.invariant (omega (arith, c.loop-item-test.true)) c.item-item.is
