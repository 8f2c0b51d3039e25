-- The failed spans so far are counted.
use Rattle.std.proofs.Common.{◌≡◌, ◌≤◌, map, take}
use Rattle.std.specs.Prelude.{count_by}
use Rattle.otel_waterfall.specs.Drawn.{look}
use Rattle.otel_waterfall.specs.Page as spec
use Rattle.otel_waterfall.proofs.page.errors_of.Given as goal

abbrev pub invariant-loop-span : goal.invariant-loop-span
invariant-loop-span l =
    (l.errors ≤ l.span-index)
    × (l.errors ≡ count_by (spec.is_failed l.trace) (map look (take l.span-index l.spans)))
