use Rattle.otel_appender_log.proofs.PairLemmas.{adds_takes}
use Rattle.otel_appender_log.proofs.attributes.AttributesVisitSource.visit_pair.Goals as goal

pub returns-in-Ok-clause-taken : goal.returns-in-Ok-clause-taken
returns-in-Ok-clause-taken g c = adds_takes g.D.Display.output _ _ _ _ c.in-Ok.ensures
