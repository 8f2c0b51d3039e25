use Rattle.std.proofs.Common.{◌≡◌, List, ◌++◌, map}
use Rattle.otel_proto_batches.specs.GroupView.{group_fields}
use Rattle.otel_proto_batches.specs.SortedView.{groups_view}
use Rattle.otel_proto_batches.proofs.GroupFields.{sorted_fields}
use Rattle.otel_proto_batches.proofs.SortedEntries.{Entry}
use Rattle.otel_proto_batches.proofs.groups.groups.Given as goal

abbrev pub invariant-loop-scope : goal.invariant-loop-scope
invariant-loop-scope g l =
    let fields_of = g.R.Grouped.form.fields_of in
    record {
      done : List (Entry g.row.R.Denot);
      whole : l.initial.scope-iterator ≡ done ++ l.scope-iterator;
      fields : map (group_fields fields_of) l.groups.items ≡ map (sorted_fields fields_of) (groups_view done);
    }
