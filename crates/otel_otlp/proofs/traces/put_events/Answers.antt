use Rattle.std.proofs.Common.{map, arith}
use Rattle.std.proofs.lemmas.Grind.{common_steps}
use Rattle.std.proofs.lemmas.List.{length-map}
use Rattle.opentelemetry.specs.View.{event_of}
use Rattle.otel_otlp.specs.Traces.{event}
use Rattle.otel_otlp.proofs.Tokens.{last_token, some_list}
use Rattle.otel_otlp.proofs.traces.put_events.Goals as goal

pub returns : goal.returns
returns c =
    let xs = c.args.items.now in
    last_token c.end_array.result c.end_array.ensures
    (some_list (λ none. absurd (grind (arith, common_steps, none, length-map (map event_of xs) event, length-map xs event_of, c.if-is_empty.false, c.is_empty.ensures)))
    c.in_ok-begin_list.ensures c.in_ok-events.ensures)
