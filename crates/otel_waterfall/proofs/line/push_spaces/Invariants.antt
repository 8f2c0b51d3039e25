-- The spaces so far are appended.
use Rattle.std.proofs.Common.{◌≡◌, ◌++◌, replicate}
use Rattle.otel_waterfall.proofs.line.push_spaces.Given as goal

abbrev pub invariant-loop : goal.invariant-loop
invariant-loop l = l.line.items ≡ l.initial.line.items ++ replicate l.counter 32
