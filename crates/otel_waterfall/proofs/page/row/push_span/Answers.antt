-- The parts of the row, one after another.
use Rattle.std.proofs.Common.{codes, string_bytes}
use Rattle.otel_waterfall.specs.Details.{details}
use Rattle.otel_waterfall.specs.Drawn.{outcome_of}
use Rattle.otel_waterfall.specs.PageRow as spec
use Rattle.otel_waterfall.proofs.Joins.{chain5}
use Rattle.otel_waterfall.proofs.Traces.{map_ok}
use Rattle.otel_waterfall.proofs.page.row.push_span.Goals as goal

pub returns : goal.returns
returns c =
    let s = c.args.span.now in
    let scale = c.args.scale in
    map_ok _ _ c.push_html-2.result
    (chain5 (spec.opening (outcome_of s.data.status) c.args.depth) (spec.summary scale.cells scale.from scale.to s) (codes "</summary>") (details scale.from s) (codes "</details>")
    (string_bytes c.args.text.now) (string_bytes c.push_open.new.text) (string_bytes c.push_summary.new.text) (string_bytes c.push_html.new.text) (string_bytes c.push_details.new.text) (string_bytes c.push_html-2.new.text)
    c.in_ok-push_open.ensures c.in_ok-push_summary.ensures c.in_ok-push_html.ensures c.in_ok-push_details.ensures)
    c.push_html-2.ensures
