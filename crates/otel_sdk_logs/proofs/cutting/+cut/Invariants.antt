use Rattle.std.proofs.Common.{◌≡◌, List, ◌++◌, take, map}
use Rattle.otel_base.specs.View.{tree, entries_view}
use Rattle.otel_base.proofs.shared.Views.{Entry}
use Rattle.otel_sdk_logs.specs.Cuts as spec
use Rattle.otel_sdk_logs.proofs.Cuts.{cut_of}
use Rattle.otel_sdk_logs.proofs.cutting.+cut.Given as goal

abbrev pub invariant-cut_items-loop-item : goal.invariant-cut_items-loop-item
invariant-cut_items-loop-item l =
    map tree l.copies.items ≡ map (cut_of l.length) (take l.item-index l.item-items)

abbrev pub invariant-cut_entries-loop-key : goal.invariant-cut_entries-loop-key
invariant-cut_entries-loop-key l =
    (done : List Entry) × (l.entries.entries ≡ done ++ l.key-iterator)
    × (entries_view l.copies.entries ≡ spec.cut_entries l.length (entries_view done))
