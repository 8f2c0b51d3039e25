use Rattle.std.proofs.Common.{◌≡◌, take}
use Rattle.otel_sdk.proofs.env.configured.made.Given as goal

abbrev pub invariant-loop-name : goal.invariant-loop-name
invariant-loop-name l = l.members.items ≡ take l.name-index l.names
