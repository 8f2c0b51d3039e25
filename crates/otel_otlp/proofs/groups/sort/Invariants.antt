use Rattle.std.proofs.Common.{◌≡◌, take}
use Rattle.otel_otlp.specs.Sorted.{sort}
use Rattle.otel_otlp.specs.SortedView.{groups_view}
use Rattle.otel_otlp.proofs.groups.sort.Given as goal

abbrev pub invariant-loop-item : goal.invariant-loop-item
invariant-loop-item g l =
    let form = g.R.Grouped.form in
    groups_view form.value_of l.groups.entries ≡ sort form.scope_of form.value_of (take l.item-index l.batch)
