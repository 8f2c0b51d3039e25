use Rattle.otel_otlp.proofs.ReadBackLines.{records_read_back}
use Rattle.otel_otlp.proofs.laws.records_read_back.Goals as goal

pub returns : goal.returns
returns c = records_read_back
