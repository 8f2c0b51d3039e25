-- The characters so far, up to the last one that isn't a space.
use Rattle.std.proofs.Common.{◌≡◌, ◌≤◌, take}
use Rattle.otel_waterfall.specs.Picture.{without_last_spaces}
use Rattle.otel_waterfall.proofs.line.len_without_last_spaces.Given as goal

abbrev pub invariant-loop-place : goal.invariant-loop-place
invariant-loop-place l = record {
  few : l.kept ≤ l.place;
  kept : take l.kept l.line ≡ without_last_spaces (take l.place l.line);
}
