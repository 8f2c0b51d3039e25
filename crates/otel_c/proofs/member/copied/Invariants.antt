use Rattle.std.proofs.Common.{◌≡◌, ◌++◌}
use Rattle.otel_c.proofs.member.copied.Given as goal

abbrev pub invariant-loop-key : goal.invariant-loop-key
invariant-loop-key l = l.held ≡ l.copy ++ l.key-iterator
