-- The groups so far are appended.
use Rattle.std.proofs.Common.{◌≡◌, ◌++◌, take}
use Rattle.std.specs.List.{flat_map}
use Rattle.otel_waterfall.specs.Prefix as spec
use Rattle.otel_waterfall.proofs.prefix.push_rails.Given as goal

abbrev pub invariant-loop-follows : goal.invariant-loop-follows
invariant-loop-follows l =
    l.line.items
    ≡ l.initial.line.items ++ flat_map (spec.rail l.is_ascii) (take l.follows-index l.ancestors)
