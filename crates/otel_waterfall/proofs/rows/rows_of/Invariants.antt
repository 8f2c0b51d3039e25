-- The rows drawn so far, and at last the spans below the place among them.
use Rattle.std.proofs.Common.{◌≡◌, ◌==◌, ℕ, ◌<◌, [], false, length, map, get_or, take}
use Rattle.std.specs.Prelude.{fold}
use Rattle.otel_waterfall.specs.Drawn.{look}
use Rattle.otel_waterfall.specs.Rows.{Draws, children_in, draw_all_left, draw_top, progress, undrawn_trace}
use Rattle.otel_waterfall.proofs.rows.rows_of.Given as goal

abbrev pub invariant-loop-node : goal.invariant-loop-node
invariant-loop-node l = record {
  draws : Draws (map (λ span. span.trace_id == l.fn.trace) l.batch) [] l.drawing.pending.items l.drawing.rows.items;
  progress :
      progress l.drawing
      ≡ fold (draw_top (length l.children.items) (children_in l.children.items)) (undrawn_trace l.fn.trace (map look l.batch)) (take l.node-index l.node-items);
}

abbrev pub invariant-loop-place : goal.invariant-loop-place
invariant-loop-place l = record {
  draws : Draws (map (λ span. span.trace_id == l.fn.trace) l.batch) [] l.drawing.pending.items l.drawing.rows.items;
  drawn : (k : ℕ) → k < l.place → get_or l.drawing.pending.items k false ≡ false;
  progress :
      progress l.drawing
      ≡ draw_all_left (length l.children.items) (children_in l.children.items) l.place
      (fold (draw_top (length l.children.items) (children_in l.children.items)) (undrawn_trace l.fn.trace (map look l.batch)) l.nodes.items);
}
