use Rattle.otel_c.proofs.Given.{reads}
use Rattle.otel_c.proofs.values.from_values.Goals as goal

pub returns-clause-read : goal.returns-clause-read
returns-clause-read c =
    reads c.make.result _ _ _ _ _ c.in_ok-made.ensures.read c.make.ensures.context
