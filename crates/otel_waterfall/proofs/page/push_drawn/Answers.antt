use Rattle.std.proofs.Common.{map, string_bytes}
use Rattle.otel_waterfall.specs.Drawn.{look}
use Rattle.otel_waterfall.proofs.Pages.{trace_shape}
use Rattle.otel_waterfall.proofs.Traces.{map_ok}
use Rattle.otel_waterfall.proofs.page.push_drawn.Goals as goal

pub returns : goal.returns
returns c =
    let extent = c.extent_of-extent in
    map_ok _ _ c.push_html-2.result
    (trace_shape c.args.is_alone c.args.trace.now (map look c.args.drawn.now) c.args.rows.now c.as_slice.result.now
    extent.result.from extent.result.to c.max.result extent.result.count c.errors_of-errors.result c.first_place.result c.opening.result.now
    (string_bytes c.args.text.now) (string_bytes c.push_html.new.text) (string_bytes c.push_head.new.text) (string_bytes c.push_rows.new.text) (string_bytes c.push_html-2.new.text)
    extent.ensures.count extent.ensures.from extent.ensures.to c.errors_of-errors.ensures c.max.ensures c.first_place.ensures c.as_slice.ensures.value c.opening.ensures
    c.in_ok-push_html.ensures c.in_ok-push_head.ensures c.in_ok-push_rows.ensures)
    c.push_html-2.ensures
