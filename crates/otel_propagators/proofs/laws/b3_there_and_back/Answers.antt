use Rattle.otel_propagators.proofs.B3Back.{multi_comes_back, no_span_is_sent, single_comes_back}
use Rattle.otel_propagators.proofs.laws.b3_there_and_back.Goals as goal

pub returns : goal.returns
returns c = record { single = single_comes_back; multi = multi_comes_back; no_span = no_span_is_sent }
