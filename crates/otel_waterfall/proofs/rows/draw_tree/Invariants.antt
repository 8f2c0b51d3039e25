-- The rows drawn so far, with the top row, and those that wait.
use Rattle.std.proofs.Common.{◌≡◌, ◌+◌, ◌-◌, length, reverse}
use Rattle.std.specs.Prelude.{All}
use Rattle.otel_waterfall.specs.Rows.{DrawsOn, IsDrawn, children_in, draw_tree, draw_waiting, progress}
use Rattle.otel_waterfall.proofs.Trees.{IsWithin}
use Rattle.otel_waterfall.proofs.rows.draw_tree.Given as goal

abbrev pub invariant-loop-row : goal.invariant-loop-row
invariant-loop-row l = record {
  draws : DrawsOn l.fn.drawing l.drawing;
  drawn : IsDrawn l.fn.top l.drawing;
  depths : All (IsWithin (l._row + 1)) l.waiting.items;
  progress :
      draw_waiting (length l.children) (children_in l.children) (length l.children - l._row) (reverse l.waiting.items) (progress l.drawing)
      ≡ draw_tree (length l.children) (children_in l.children) l.fn.top l.fn.parent (progress l.fn.drawing);
}
