use Rattle.otel_otlp.proofs.OneText.{equal_texts_say_same}
use Rattle.otel_otlp.proofs.laws.equal_texts_say_same.Goals as goal

pub returns : goal.returns
returns c = equal_texts_say_same
