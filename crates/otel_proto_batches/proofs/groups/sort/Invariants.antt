use Rattle.std.proofs.Common.{◌≡◌, take}
use Rattle.otel_proto_batches.specs.Sorted.{sort}
use Rattle.otel_proto_batches.specs.SortedView.{groups_view}
use Rattle.otel_proto_batches.proofs.groups.sort.Given as goal

abbrev pub invariant-loop-item : goal.invariant-loop-item
invariant-loop-item g l =
    groups_view l.groups.entries ≡ sort g.R.Grouped.form.scope_of (take l.item-index l.batch)
