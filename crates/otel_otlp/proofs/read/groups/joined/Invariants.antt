use Rattle.std.proofs.Common.{◌≡◌, map}
use Rattle.otel_otlp.specs.ReadGroups as spec
use Rattle.otel_otlp.proofs.read.groups.joined.Given as goal

abbrev pub invariant-loop-group : goal.invariant-loop-group
invariant-loop-group g l = l.all.items ≡ spec.joined (map g.G.Group.held l.yielded)
