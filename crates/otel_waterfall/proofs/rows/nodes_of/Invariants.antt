-- The nodes of the starts so far.
use Rattle.std.proofs.Common.{◌≡◌, map, take}
use Rattle.otel_waterfall.specs.Drawn.{look}
use Rattle.otel_waterfall.specs.Rows.{node_of}
use Rattle.otel_waterfall.proofs.rows.nodes_of.Given as goal

abbrev pub invariant-loop-place : goal.invariant-loop-place
invariant-loop-place l = l.nodes.items ≡ map (node_of l.fn.trace (map look l.batch)) (take l.place-index l.place-items)
