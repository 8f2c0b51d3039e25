use Rattle.otel_c.proofs.Given.{reads_as}
use Rattle.otel_c.proofs.values.read.Goals as goal

pub returns-clause-read : goal.returns-clause-read
returns-clause-read c = reads_as c.extract.result _ _ _ _ _ _
    c.in_ok-readable-2.ensures.text c.in_ok-readable-3.ensures.text c.in_ok-readable.ensures.text
    c.in_ok-readable-2.ensures.readable c.in_ok-readable-3.ensures.readable
    c.in_ok-readable.ensures.readable c.extract.ensures.read
