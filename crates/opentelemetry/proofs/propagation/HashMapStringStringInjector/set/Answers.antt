use Rattle.std.proofs.Common.{rules}
use Rattle.opentelemetry.proofs.shared.Maps.{sets_one}
use Rattle.opentelemetry.proofs.propagation.HashMapStringStringInjector.set.Goals as goal

pub returns-clause-ok : goal.returns-clause-ok
returns-clause-ok g c = sets_one c.args.self.now c.insert.new.self c.args.key.now c.in_ok-lowered.lowered c.args.value (search rules) c.in_ok-insert.ensures.updates
