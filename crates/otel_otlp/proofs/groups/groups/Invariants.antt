use Rattle.std.proofs.Common.{◌≡◌, List, ◌++◌, map}
use Rattle.otel_otlp.specs.Sorted.{scope_group}
use Rattle.otel_otlp.specs.SortedView.{groups_view}
use Rattle.otel_otlp.specs.Tokens.{HasItems}
use Rattle.otel_otlp.proofs.SortedEntries.{Entry}
use Rattle.otel_otlp.proofs.groups.groups.Given as goal

abbrev pub invariant-loop-scope : goal.invariant-loop-scope
invariant-loop-scope g l =
    let form = g.R.Grouped.form in
    (done : List (Entry form.value_of)) × (l.initial.scope-iterator ≡ done ++ l.scope-iterator)
    × (HasItems l.initial.out l.out (map (scope_group form.items) (groups_view form.value_of done)))
