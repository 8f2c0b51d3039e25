use Rattle.std.proofs.Common.{lit<}
use Rattle.otel_propagators.proofs.B3Reads.{cut_none, cut_some}
use Rattle.otel_propagators.proofs.b3.single.split_dash.Goals as goal

pub returns-in-Some : goal.returns-in-Some
returns-in-Some c = cut_some c.args.text.now c.in-Some.first.now c.in-Some.rest.now (c.in-Some.ensures.byte (lit< tt) (λ w o f. f))

pub returns-in-None : goal.returns-in-None
returns-in-None c = cut_none c.args.text.now (c.in-None.ensures.byte (lit< tt) (λ w o f. f))
