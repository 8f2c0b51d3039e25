use Rattle.std.proofs.Common.{rules}
use Rattle.otel_sdk.proofs.DrawLemmas.{again, found, failed, used_up}
use Rattle.otel_sdk.proofs.trace.id_generator.draws.first_valid.Goals as goal

pub returns-in_default-clause-drawn : goal.returns-in_default-clause-drawn
returns-in_default-clause-drawn g c =
    c.loop.invariant _ _ (failed g.D.Draws.may_draw g.D.Draws.number 8 c.loop.counter c.loop.draws
    c.draw.new.self c.loop-test.true (search rules))

pub returns-then-not-is_zero-clause-drawn : goal.returns-then-not-is_zero-clause-drawn
returns-then-not-is_zero-clause-drawn g c =
    c.loop.invariant _ _ (found g.D.Draws.may_draw g.D.Draws.number 8 c.loop.counter c.loop.draws
    c.in-Some.id c.draw.new.self c.loop-test.true (search rules) (search rules))

pub loop-preserved : goal.loop-preserved
loop-preserved g c = λ result left rest.
    c.loop.invariant result left (again g.D.Draws.may_draw g.D.Draws.number 8 c.loop.counter
    c.loop.draws c.in-Some.id c.draw.new.self result left c.loop-test.true (search rules)
    (search rules) rest)

pub returns-clause-drawn : goal.returns-clause-drawn
returns-clause-drawn g c =
    c.loop.invariant _ _ (used_up g.D.Draws.may_draw g.D.Draws.number 8 c.loop.counter c.loop.draws
    c.loop-test.false)
