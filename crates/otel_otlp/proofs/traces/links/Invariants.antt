use Rattle.std.proofs.Common.{map, take}
use Rattle.opentelemetry.specs.View.{link_of}
use Rattle.otel_otlp.specs.Tokens.{HasItems}
use Rattle.otel_otlp.specs.Traces.{link}
use Rattle.otel_otlp.proofs.traces.links.Given as goal

abbrev pub invariant-loop-item : goal.invariant-loop-item
invariant-loop-item l = HasItems l.initial.out l.out (map link (map link_of (take l.item-index l.items)))
