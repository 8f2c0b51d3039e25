use Rattle.otel_otlp.proofs.ReadErrors.{weaker}
use Rattle.otel_otlp.proofs.read.lines.groups.Goals as goal

pub returns-clause-err : goal.returns-clause-err
returns-clause-err g c =
    weaker c.read_list.result _ _ (λ e h no ms is. h no ms) c.read_list.ensures.err
