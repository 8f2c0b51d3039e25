use Rattle.std.proofs.Common.{map, take}
use Rattle.otel_otlp.specs.Tokens.{HasItems}
use Rattle.otel_otlp.proofs.groups.values.Given as goal

abbrev pub invariant-loop-item : goal.invariant-loop-item
invariant-loop-item g l =
    HasItems l.initial.out l.out (map (λ r. g.R.Grouped.form.value_of r.now) (take l.item-index l.items))
