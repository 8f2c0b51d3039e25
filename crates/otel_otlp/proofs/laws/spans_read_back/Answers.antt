use Rattle.otel_otlp.proofs.ReadBackLines.{spans_read_back}
use Rattle.otel_otlp.proofs.laws.spans_read_back.Goals as goal

pub returns : goal.returns
returns c = spans_read_back
