use Rattle.std.proofs.Common.{map, take}
use Rattle.otel_base.specs.View.{pairs_view}
use Rattle.otel_otlp.specs.Logs.{attribute}
use Rattle.otel_otlp.specs.Tokens.{HasItems}
use Rattle.otel_otlp.proofs.logs.pairs.Given as goal

abbrev pub invariant-loop-attribute : goal.invariant-loop-attribute
invariant-loop-attribute l =
    HasItems l.initial.out l.out (map attribute (pairs_view (take l.attribute-index l.attributes)))
