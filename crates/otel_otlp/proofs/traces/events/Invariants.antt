use Rattle.std.proofs.Common.{map, take}
use Rattle.opentelemetry.specs.View.{event_of}
use Rattle.otel_otlp.specs.Tokens.{HasItems}
use Rattle.otel_otlp.specs.Traces.{event}
use Rattle.otel_otlp.proofs.traces.events.Given as goal

abbrev pub invariant-loop-item : goal.invariant-loop-item
invariant-loop-item l = HasItems l.initial.out l.out (map event (map event_of (take l.item-index l.items)))
