use Rattle.std.proofs.Common.{string_bytes}
use Rattle.otel_waterfall.specs.PageRow.{row}
use Rattle.otel_waterfall.proofs.Joins.{plain_turn}
use Rattle.otel_waterfall.proofs.page.push_rows.Goals as goal

pub loop-row-preserved : goal.loop-row-preserved
loop-row-preserved c =
    plain_turn (row c.args.scale.cells c.args.scale.from c.args.scale.to c.args.spans.now) c.args.rows.now c.loop-row.row-index _
    (string_bytes c.args.text.now) (string_bytes c.loop-row.text) (string_bytes c.push_row.new.text)
    c.loop-row-test.true c.loop-row.invariant c.in_ok-push_row.ensures
