use Rattle.opentelemetry.specs.Carrier.{text_map}
use Rattle.otel_http.proofs.Reading.{Filled}
use Rattle.otel_http.proofs.extractor.HeaderExtractor.new.Given as goal

abbrev pub invariant-loop-name : goal.invariant-loop-name
invariant-loop-name l = Filled l.headers l.name-iterator (text_map l.held.entries)
