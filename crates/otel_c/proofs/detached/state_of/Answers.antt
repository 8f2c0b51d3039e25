use Rattle.std.proofs.Common.{◌∙◌, sym}
use Rattle.otel_c.proofs.Apart.{inserted_again}
use Rattle.otel_c.proofs.detached.state_of.Goals as goal

pub returns-in-Ok-clause-same : goal.returns-in-Ok-clause-same
returns-in-Ok-clause-same c =
    c.in-Ok.ensures.0
    ∙ inserted_again _ _ _ _ c.iter.ensures.state (sym c.iter.ensures.pairs ∙ c.in-Some.ensures.steps)
