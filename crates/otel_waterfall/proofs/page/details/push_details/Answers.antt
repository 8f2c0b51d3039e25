-- The parts of the details, one after another.
use Rattle.std.proofs.Common.{codes, string_bytes}
use Rattle.otel_waterfall.specs.Details as spec
use Rattle.otel_waterfall.proofs.Joins.{chain5}
use Rattle.otel_waterfall.proofs.Traces.{map_ok}
use Rattle.otel_waterfall.proofs.page.details.push_details.Goals as goal

pub returns : goal.returns
returns c =
    let s = c.args.span.now in
    map_ok _ _ c.push_html-2.result
    (chain5 (spec.heading s.data.name) (spec.facts c.args.from s) (codes "</dl>") (spec.lists c.args.from s) (codes "</div>")
    (string_bytes c.args.text.now) (string_bytes c.push_title.new.text) (string_bytes c.push_facts.new.text) (string_bytes c.push_html.new.text) (string_bytes c.push_lists.new.text) (string_bytes c.push_html-2.new.text)
    c.in_ok-push_title.ensures c.in_ok-push_facts.ensures c.in_ok-push_html.ensures c.in_ok-push_lists.ensures)
    c.push_html-2.ensures
