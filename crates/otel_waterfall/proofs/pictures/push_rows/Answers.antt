use Rattle.std.proofs.Common.{map, string_bytes}
use Rattle.otel_waterfall.specs.Drawn.{look}
use Rattle.otel_waterfall.proofs.Traces.{rows_turn}
use Rattle.otel_waterfall.proofs.pictures.push_rows.Goals as goal

pub loop-row-preserved : goal.loop-row-preserved
loop-row-preserved c =
    rows_turn c.args.style.is_ascii c.args.style.width c.args.scale.from c.args.scale.to (map look c.args.batch.now) c.args.rows.now c.loop-row.row-index _ c.loop-row.follows.items c.push_row.new.follows.items
    (string_bytes c.loop-row.text) (string_bytes c.push_row.new.text) _ c.loop-row-test.true c.loop-row.invariant c.in_ok-push_row.ensures.moved c.in_ok-push_row.ensures.text
