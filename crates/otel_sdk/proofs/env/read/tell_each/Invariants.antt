-- The warnings so far are told.
use Rattle.std.proofs.Common.{All, take}
use Rattle.otel_sdk.proofs.env.read.tell_each.Given as goal

abbrev pub invariant-loop-warning : goal.invariant-loop-warning
invariant-loop-warning g l = All g.S.WarningSink.is_told (take l.warning-index l.warnings)
