use Rattle.std.proofs.Common.{take}
use Rattle.std.specs.Prelude.{map}
use Rattle.otel_c.specs.Many.{given_of, PutsAll}
use Rattle.otel_c.proofs.many.put_all.Given as goal

abbrev pub invariant-loop-position : goal.invariant-loop-position
invariant-loop-position l =
    PutsAll l.initial.baggage (map given_of (take l.position l.given)) l.baggage
