use Rattle.std.proofs.Common.{string_bytes}
use Rattle.opentelemetry.specs.View.{event_of}
use Rattle.otel_waterfall.specs.Details as spec
use Rattle.otel_waterfall.proofs.Joins.{mapped_turn}
use Rattle.otel_waterfall.proofs.page.details.push_events.Goals as goal

pub loop-event-preserved : goal.loop-event-preserved
loop-event-preserved c =
    mapped_turn (spec.event c.args.from) event_of c.args.events.now c.loop-event.event-index c.event-item.result
    (string_bytes c.args.text.now) (string_bytes c.loop-event.text) (string_bytes c.push_event.new.text)
    c.loop-event-test.true c.event-item.is c.loop-event.invariant c.in_ok-push_event.ensures
