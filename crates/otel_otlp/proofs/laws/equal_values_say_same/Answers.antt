use Rattle.otel_otlp.proofs.OneSpan.{equal_values_say_same}
use Rattle.otel_otlp.proofs.laws.equal_values_say_same.Goals as goal

pub returns : goal.returns
returns c = equal_values_say_same
