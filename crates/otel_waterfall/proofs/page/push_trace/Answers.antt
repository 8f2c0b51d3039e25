use Rattle.std.proofs.Common.{List, ◌++◌, map, ap, ◌∙◌, subst, string_bytes}
use Rattle.std.specs.Prelude.{◌==◌}
use Rattle.otel_waterfall.specs.Drawn.{look}
use Rattle.otel_waterfall.specs.Page as spec
use Rattle.otel_waterfall.specs.Rows.{AreDrawnOnce, rows_of}
use Rattle.otel_waterfall.specs.declared.rows.Row.{Row}
use Rattle.otel_waterfall.specs.declared.span.Span.{Span}
use Rattle.otel_waterfall.proofs.Pages.{adds_trace}
use Rattle.otel_waterfall.proofs.Traces.{map_ok}
use Rattle.otel_waterfall.proofs.page.push_trace.Goals as goal

pub returns : goal.returns
returns c =
    let trace = c.args.trace.now in
    let old = string_bytes c.args.text.now in
    let drawn = c.in_ok-drawn.drawn.items in
    let rows = c.in_ok-rows.rows.items in
    let said = λ (ds : List Span) (rs : List Row). old ++ spec.trace_with c.args.is_alone trace (map look ds) rs in
    map_ok _ _ c.push_drawn.result
    (λ grown. adds_trace c.args.is_alone trace drawn rows old (string_bytes c.push_drawn.new.text)
    (c.in_ok-drawn.ensures ∙ ap (map spec.look_of_span) c.as_slice.ensures.value)
    (subst (λ (ds : List Span). AreDrawnOnce (map (λ (s : Span). s.trace_id == trace.trace_id) ds) rows) c.as_slice-2.ensures.value c.in_ok-rows.ensures.once)
    (c.in_ok-rows.ensures.rows ∙ ap (λ (ds : List Span). rows_of trace.trace_id (map look ds)) c.as_slice-2.ensures.value)
    (grown ∙ ap (λ (ds : List Span). said ds c.as_slice-4.result.now) c.as_slice-3.ensures.value ∙ ap (said drawn) c.as_slice-4.ensures.value))
    c.push_drawn.ensures
