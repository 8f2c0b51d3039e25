use Rattle.opentelemetry.proofs.shared.Maps.{same_map_state}
use Rattle.opentelemetry.proofs.propagation.HashMapStringStringInjector.reserve.Goals as goal

pub returns : goal.returns
returns g c = same_map_state c.args.self.now c.reserve.new.self c.reserve.ensures.entries.2
