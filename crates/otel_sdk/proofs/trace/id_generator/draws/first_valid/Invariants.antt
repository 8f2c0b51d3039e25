use Rattle.std.proofs.Common.{◌-◌}
use Rattle.otel_sdk.specs.IdGenerator.{FirstValid, max_draws}
use Rattle.otel_sdk.proofs.trace.id_generator.draws.first_valid.Given as goal

-- any result of the remaining draws is a possible result of all draws
abbrev pub invariant-loop : goal.invariant-loop
invariant-loop g l = (result : _) (left : _)
    → FirstValid g.D.Draws.may_draw g.D.Draws.number (8 - l.counter) l.draws result left
    → FirstValid g.D.Draws.may_draw g.D.Draws.number max_draws l.fn.draws result left
