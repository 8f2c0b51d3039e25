use Rattle.std.proofs.Common.{◌∙◌}
use Rattle.otel_context.specs.declared.names.Name.TheVariants.{Asked}
use Rattle.otel_context.proofs.NameLemmas.{position_is}
use Rattle.otel_context.proofs.baggage.members.many.find.Goals as goal

pub returns : goal.returns
returns c = c.get_index_of.ensures.index ∙ position_is (Asked c.args.key) c.args.map.now.entries
