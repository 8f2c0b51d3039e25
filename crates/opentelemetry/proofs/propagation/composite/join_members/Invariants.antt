use Rattle.std.proofs.Common.{◌≡◌, ◌++◌}
use Rattle.std.specs.Vec.Iter.{into_iter_items}
use Rattle.opentelemetry.proofs.propagation.composite.join_members.Given as goal

abbrev pub invariant-loop-member : goal.invariant-loop-member
invariant-loop-member g l =
    l.members.items ++ into_iter_items l.member-iterator ≡ l.initial.members.items ++ into_iter_items l.initial.member-iterator
