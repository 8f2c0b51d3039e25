use Rattle.std.proofs.Common.{◌≤◌, ◌+◌, ◌-◌, ◌*◌}
use Rattle.otel_sdk.specs.LastExport.{StoodStill, Waits, pause}
use Rattle.otel_sdk.proofs.trace.tracing.last_export.Timer.wait.Given as goal

-- the clock was read while more time was left, and then stood still so often
abbrev pub invariant-loop-self : goal.invariant-loop-self
invariant-loop-self g l = record {
  read : Waits (g.C.Clock.reads l.clock) (l.fn.self.left - pause) l.fn.self l.self;
  stood : StoodStill (g.C.Clock.reads l.clock) l.still l.self.last;
  few : l.still ≤ 10000000;
}

-- each reading leaves less time, or the clock stands still once more
abbrev pub decreases-loop-self : goal.decreases-loop-self
decreases-loop-self g l = l.self.left * 10000001 + (10000000 - l.still)
