-- The characters so far have taken their columns.
use Rattle.std.proofs.Common.{◌≡◌, ◌-◌, take}
use Rattle.otel_waterfall.specs.Name as spec
use Rattle.otel_waterfall.proofs.name.columns_left.Given as goal

abbrev pub invariant-loop-c : goal.invariant-loop-c
invariant-loop-c l = l.left ≡ l.columns - spec.columns_of (take l.c-index l.name)
