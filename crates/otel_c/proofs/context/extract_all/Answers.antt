use Rattle.otel_c.proofs.Carried.{in_turn}
use Rattle.otel_c.proofs.context.extract_all.Goals as goal

pub returns-clause-read : goal.returns-clause-read
returns-clause-read c =
    in_turn _ _ _ _ _ c.in_ok-extractor.ensures c.in_ok-traced.ensures.read c.in_ok-given.ensures.read
