use Rattle.otel_context.proofs.BaggageMembers.{header_determines, header_short}
use Rattle.otel_context.proofs.laws.header_reading.Goals as goal

pub returns : goal.returns
returns c = record { determines = header_determines; short = header_short }
