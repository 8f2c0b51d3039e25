-- Each character so far is shown.
use Rattle.std.proofs.Common.{◌≡◌, map}
use Rattle.otel_waterfall.specs.Name as spec
use Rattle.otel_waterfall.proofs.name.shown_name.Given as goal

abbrev pub invariant-loop-c : goal.invariant-loop-c
invariant-loop-c l = l.chars.items ≡ map (spec.shown l.is_ascii) l.yielded
