use Rattle.std.proofs.Common.{◌∙◌}
use Rattle.otel_ids.proofs.Keys.{has_from_get}
use Rattle.otel_ids.proofs.pairs.Pairs.has_key.Goals as goal

pub returns : goal.returns
returns c = c.is_some.ensures ∙ has_from_get c.args.self.now c.args.key.now c.get.result c.get.ensures
