use Rattle.std.proofs.Common.{◌+◌, ◌*◌, map, take}
use Rattle.std.specs.List.{AllZip}
use Rattle.serde_json.specs.View.{view}
use Rattle.otel_base.specs.View.{tree, pairs_view}
use Rattle.otel_otlp.specs.ReadTrees.{IsTree, IsPair}
use Rattle.otel_otlp.proofs.read.trees.+tree.Given as goal

-- the calls between two levels, and the levels that are left
abbrev pub decreases-read_list : goal.decreases-read_list
decreases-read_list l = 6 * l.levels

abbrev pub decreases-read_map : goal.decreases-read_map
decreases-read_map l = 6 * l.levels

abbrev pub decreases-read_tree : goal.decreases-read_tree
decreases-read_tree l = 6 * l.levels + 1

abbrev pub decreases-read_trees : goal.decreases-read_trees
decreases-read_trees l = 6 * l.levels + 2

abbrev pub decreases-value_in : goal.decreases-value_in
decreases-value_in l = 6 * l.levels + 2

abbrev pub decreases-read_pair : goal.decreases-read_pair
decreases-read_pair l = 6 * l.levels + 3

abbrev pub decreases-read_pairs : goal.decreases-read_pairs
decreases-read_pairs l = 6 * l.levels + 4

abbrev pub decreases-pairs_in : goal.decreases-pairs_in
decreases-pairs_in l = 6 * l.levels + 5

abbrev pub invariant-read_trees-loop-index : goal.invariant-read_trees-loop-index
invariant-read_trees-loop-index l =
    AllZip (IsTree l.levels) (map view (take l.index l.values)) (map tree l.read.items)

abbrev pub invariant-read_pairs-loop-index : goal.invariant-read_pairs-loop-index
invariant-read_pairs-loop-index l =
    AllZip (IsPair l.levels) (map view (take l.index l.values)) (pairs_view l.read.items)
