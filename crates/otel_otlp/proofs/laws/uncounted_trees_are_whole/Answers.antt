use Rattle.otel_otlp.proofs.WholeTrees.{whole}
use Rattle.otel_otlp.proofs.laws.uncounted_trees_are_whole.Goals as goal

pub returns : goal.returns
returns c = whole
