use Rattle.std.proofs.Common.{ap}
use Rattle.otel_base.specs.View.{pairs_view}
use Rattle.otel_appender_log.specs.Attributes.{TakesPair}
use Rattle.otel_appender_log.proofs.PairLemmas.{visited}
use Rattle.otel_appender_log.proofs.attributes.attributes_of.Goals as goal

pub returns-in-Ok : goal.returns-in-Ok
returns-in-Ok g c =
    visited (λ v. pairs_view v.pairs.items) TakesPair (g.K.Source.pairs c.args.source.now) _ c.visit.new.visitor _
    (ap pairs_view c.new.ensures.items) c.in-Ok.ensures
