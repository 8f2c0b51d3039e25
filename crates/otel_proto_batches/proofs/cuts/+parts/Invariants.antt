use Rattle.std.proofs.Common.{◌≡◌, ◌<◌, ◌-◌, drop}
use Rattle.otel_base.specs.View.{trees_view, entries_view}
use Rattle.otel_sdk_base.specs.Attributes.{up_by}
use Rattle.otel_proto_batches.specs.Cuts.{cut_parts_of_trees, cut_parts_of_entries}
use Rattle.otel_proto_batches.proofs.cuts.+parts.Given as goal

abbrev pub invariant-add_cut_entries-loop-item : goal.invariant-add_cut_entries-loop-item
invariant-add_cut_entries-loop-item l =
    (l.counted < 4294967296)
    × (up_by l.counted (cut_parts_of_entries (l.levels - 1) (entries_view l.item-iterator))
    ≡ up_by l.count (cut_parts_of_entries (l.levels - 1) (entries_view l.entries.entries)))

abbrev pub invariant-add_cut_items-loop-item : goal.invariant-add_cut_items-loop-item
invariant-add_cut_items-loop-item l =
    (l.counted < 4294967296)
    × (up_by l.counted (cut_parts_of_trees (l.levels - 1) (trees_view (drop l.item-index l.item-items)))
    ≡ up_by l.count (cut_parts_of_trees (l.levels - 1) (trees_view l.item-items)))
