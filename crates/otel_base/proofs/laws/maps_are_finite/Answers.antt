use Rattle.otel_base.proofs.MapTrees.{same_map}
use Rattle.otel_base.proofs.laws.maps_are_finite.Goals as goal

pub returns : goal.returns
returns c = record { same = same_map }
