use Rattle.std.proofs.Common.{map, take}
use Rattle.otel_otlp.specs.Common.{integer_value}
use Rattle.otel_otlp.specs.Tokens.{HasItems}
use Rattle.otel_otlp.proofs.common.integer_values.Given as goal

abbrev pub invariant-loop-item : goal.invariant-loop-item
invariant-loop-item l = HasItems l.initial.out l.out (map integer_value (take l.item-index l.items))
