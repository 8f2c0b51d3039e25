use Rattle.std.proofs.Common.{subst}
use Rattle.otel_context.specs.Names.{IsHeld, Named}
use Rattle.otel_context.proofs.NameLemmas.{held_first}
use Rattle.otel_context.proofs.baggage.members.many.IterIterator.next.Goals as goal

pub unreachable-requires : goal.unreachable-requires
unreachable-requires c =
    let e : Named = (c.in_ok-name.name.now, c.in_ok-name.pair.now) in
    subst IsHeld c.in-Asked.is (held_first c.self.inside.entries c.next.new.self e c.self.invariant c.in_ok-name.ensures.steps).0

pub invariant_of-self-2 : goal.invariant_of-self-2
invariant_of-self-2 c =
    let e : Named = (c.in_ok-name.name.now, c.in_ok-name.pair.now) in
    (held_first c.self.inside.entries c.next.new.self e c.self.invariant c.in_ok-name.ensures.steps).1
