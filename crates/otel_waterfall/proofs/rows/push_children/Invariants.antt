-- The waiting rows of the last siblings.
use Rattle.std.proofs.Common.{◌≡◌, ◌++◌, reverse, length, List}
use Rattle.std.specs.Prelude.{nat_lt}
use Rattle.otel_waterfall.specs.Rows.{children_in, progress, siblings, undrawn}
use Rattle.otel_waterfall.specs.declared.rows.Node.{Node}
use Rattle.otel_waterfall.proofs.rows.push_children.Given as goal

abbrev pub invariant-loop-node : goal.invariant-loop-node
invariant-loop-node l = record {
  done : List Node;
  whole : l.node-iterator.iter.rest.now ++ done ≡ children_in l.children l.fn.parent;
  waiting : l.waiting.items ≡ l.initial.waiting.items ++ reverse (siblings l.depth (undrawn (progress l.drawing) done));
  follows : l.follows ≡ nat_lt 0 (length (undrawn (progress l.drawing) done));
}
