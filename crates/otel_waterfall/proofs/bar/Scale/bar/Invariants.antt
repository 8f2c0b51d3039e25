-- The cells so far have their characters.
use Rattle.std.proofs.Common.{◌≡◌}
use Rattle.otel_waterfall.specs.Bar as spec
use Rattle.otel_waterfall.proofs.bar.Scale.bar.Given as goal

abbrev pub invariant-loop-cell : goal.invariant-loop-cell
invariant-loop-cell l =
    l.bar.items
    ≡ spec.values_below (spec.cell_char l.is_ascii l.self.cells l.self.from l.self.to l.start l.end l.moments) l.cell
