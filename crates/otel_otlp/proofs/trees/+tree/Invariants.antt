use Rattle.std.proofs.Common.{◌≡◌, List, ◌++◌, take, map}
use Rattle.otel_otlp.specs.Tokens.{HasItems}
use Rattle.otel_otlp.proofs.TreeValues.{Entry, cut_value, entry_value}
use Rattle.otel_otlp.proofs.trees.+tree.Given as goal

abbrev pub invariant-tree_values-loop-item : goal.invariant-tree_values-loop-item
invariant-tree_values-loop-item l =
    HasItems l.initial.out l.out (map (cut_value l.levels) (take l.item-index l.item-items))

abbrev pub invariant-entry_values-loop-key : goal.invariant-entry_values-loop-key
invariant-entry_values-loop-key l =
    (done : List Entry) × (l.entries.entries ≡ done ++ l.key-iterator)
    × HasItems l.initial.out l.out (map (entry_value l.levels) done)
