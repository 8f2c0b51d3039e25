use Rattle.std.proofs.Common.{map, string_bytes}
use Rattle.otel_waterfall.specs.Drawn.{look}
use Rattle.otel_waterfall.proofs.Traces.{has_each_span, map_ok, trace_shape}
use Rattle.otel_waterfall.proofs.pictures.push_trace.Goals as goal

pub returns : goal.returns
returns c =
    let rows = c.in_ok-rows.rows.items in
    let said = c.in_ok-rows.ensures in
    let extent = c.extent_of-extent in
    map_ok _ _ c.push_rows.result
    (λ grown. record {
      once = has_each_span c.args.trace c.args.batch.now rows said.once said.rows;
      is = trace_shape c.args.style.is_ascii c.args.style.width (map look c.args.batch.now) c.args.trace _ _ _ _ rows _ (string_bytes c.args.text.now) _ _
          extent.ensures.count extent.ensures.from extent.ensures.to c.max.ensures c.as_slice.ensures.value said.rows c.in_ok-push_head.ensures grown;
    })
    c.push_rows.ensures
