use Rattle.otel_propagators.proofs.Carried.{in_turn, together, composite_sets, by_w3c}
use Rattle.otel_propagators.proofs.laws.headers_there_and_back.Goals as goal

pub returns : goal.returns
returns c = record { in_turn = in_turn; together = together; composite = composite_sets; w3c = by_w3c }
