-- The starts and the places of the spans before this one.
use Rattle.std.proofs.Common.{◌≡◌, ℕ, ◌++◌, map, take, drop}
use Rattle.std.specs.BTreeMap.{get}
use Rattle.std.specs.Ordering.{nat_cmp}
use Rattle.otel_waterfall.specs.Drawn.{look}
use Rattle.otel_waterfall.specs.Rows.{place_of, starts_from}
use Rattle.otel_waterfall.proofs.rows.starts_of.Given as goal

abbrev pub invariant-loop-place : goal.invariant-loop-place
invariant-loop-place l = record {
  starts : l.starts.items ++ starts_from l.fn.trace l.place (map look (drop l.place l.batch)) ≡ starts_from l.fn.trace 0 (map look l.batch);
  places : (id : ℕ) → get nat_cmp l.places id ≡ place_of l.fn.trace (map look (take l.place l.batch)) id;
}
