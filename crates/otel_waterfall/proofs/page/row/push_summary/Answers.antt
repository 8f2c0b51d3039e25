-- The parts of the line, one after another.
use Rattle.std.proofs.Common.{string_bytes}
use Rattle.otel_waterfall.specs.Drawn.{outcome_of}
use Rattle.otel_waterfall.specs.PageRow as spec
use Rattle.otel_waterfall.proofs.Joins.{chain4}
use Rattle.otel_waterfall.proofs.Traces.{map_ok}
use Rattle.otel_waterfall.proofs.page.row.push_summary.Goals as goal

pub returns : goal.returns
returns c =
    let s = c.args.span.now in
    let scale = c.args.scale in
    map_ok _ _ c.push_status.result
    (chain4 (spec.names s) (spec.duration s.data.start_time s.data.end_time) (spec.bar scale.cells scale.from scale.to s) (spec.status (outcome_of s.data.status))
    (string_bytes c.args.text.now) (string_bytes c.push_names.new.text) (string_bytes c.push_time.new.text) (string_bytes c.push_bar.new.text) (string_bytes c.push_status.new.text)
    c.in_ok-push_names.ensures c.in_ok-push_time.ensures c.in_ok-push_bar.ensures)
    c.push_status.ensures
