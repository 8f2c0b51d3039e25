-- The extent of the spans so far.
use Rattle.std.proofs.Common.{◌≡◌, ◌≤◌, length, map, take}
use Rattle.otel_waterfall.specs.Drawn.{look}
use Rattle.otel_waterfall.specs.Picture as spec
use Rattle.otel_waterfall.proofs.pictures.extent_of.Given as goal

abbrev pub invariant-loop-span : goal.invariant-loop-span
invariant-loop-span l = record {
  few : l.extent.count ≤ l.span-index;
  count : l.extent.count ≡ length (spec.spans_of l.trace (map look (take l.span-index l.batch)));
  from : l.extent.from ≡ spec.least_start (spec.spans_of l.trace (map look (take l.span-index l.batch)));
  to : l.extent.to ≡ spec.greatest_end (spec.spans_of l.trace (map look (take l.span-index l.batch)));
}
