-- Each character so far fits, and the later ones have the columns that are left.
use Rattle.std.proofs.Common.{◌≡◌, ◌+◌, drop}
use Rattle.otel_waterfall.specs.Name as spec
use Rattle.otel_waterfall.proofs.name.count_within.Given as goal

abbrev pub invariant-loop-c : goal.invariant-loop-c
invariant-loop-c l =
    (l.count ≡ l.c-index)
    × (spec.count_within l.columns l.name ≡ l.count + spec.count_within l.left (drop l.c-index l.name))
