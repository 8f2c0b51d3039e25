use Rattle.std.proofs.Common.{ℕ, ◌++◌, ap, ◌∙◌, string_bytes}
use Rattle.opentelemetry.specs.View.{event_of}
use Rattle.otel_waterfall.specs.PageRow as spec
use Rattle.otel_waterfall.proofs.Joins.{mapped_turn}
use Rattle.otel_waterfall.proofs.page.row.push_marks.Goals as goal

pub loop-event-preserved : goal.loop-event-preserved
loop-event-preserved c =
    mapped_turn (spec.mark c.args.scale.cells c.args.scale.from c.args.scale.to) event_of c.args.events.now c.loop-event.event-index c.event-item.result
    (string_bytes c.args.text.now) (string_bytes c.loop-event.text) (string_bytes c.push_mark.new.text)
    c.loop-event-test.true c.event-item.is c.loop-event.invariant
    (c.in_ok-push_mark.ensures ∙ ap (λ (k : ℕ). string_bytes c.loop-event.text ++ spec.mark_at k) c.cell_of.ensures)
