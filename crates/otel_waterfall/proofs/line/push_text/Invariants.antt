-- The characters so far are appended.
use Rattle.std.proofs.Common.{◌≡◌, ◌++◌}
use Rattle.otel_waterfall.proofs.line.push_text.Given as goal

abbrev pub invariant-loop-c : goal.invariant-loop-c
invariant-loop-c l = l.line.items ≡ l.initial.line.items ++ l.yielded
