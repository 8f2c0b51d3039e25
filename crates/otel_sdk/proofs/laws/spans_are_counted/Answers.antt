use Rattle.otel_sdk.proofs.LossLemmas.{spans-counted}
use Rattle.otel_sdk.proofs.laws.spans_are_counted.Goals as goal

pub returns : goal.returns
returns g c = λ p ended arrived received all fresh keeps few. spans-counted g.E.Exporter.accepted g.E.Exporter.calls p ended arrived received all fresh keeps few
