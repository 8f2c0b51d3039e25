-- The parts of the line, one after another.
use Rattle.std.proofs.Common.{ℕ, List, ◌++◌, ap, ◌∙◌, string_bytes}
use Rattle.otel_waterfall.specs.Page as spec
use Rattle.otel_waterfall.specs.PageRow.{duration}
use Rattle.otel_waterfall.specs.declared.page.PageSpan.{PageSpan}
use Rattle.otel_waterfall.proofs.Joins.{chain5}
use Rattle.otel_waterfall.proofs.Traces.{map_ok}
use Rattle.otel_waterfall.proofs.page.push_head.Goals as goal

pub returns : goal.returns
returns c =
    let t = c.args.trace.now in
    let e = c.args.extent in
    map_ok _ _ c.push_id.result
    (chain5 (spec.title t.spans.items c.args.first) (duration e.from e.to) (spec.counts e.count c.args.errors) (spec.start t.start) (spec.id_line t.trace_id)
    (string_bytes c.args.text.now) (string_bytes c.push_title.new.text) (string_bytes c.push_duration.new.text) (string_bytes c.push_counts.new.text) (string_bytes c.push_start.new.text) (string_bytes c.push_id.new.text)
    (c.in_ok-push_title.ensures ∙ ap (λ (ss : List PageSpan). string_bytes c.args.text.now ++ spec.title ss c.args.first) c.as_slice.ensures.value)
    c.in_ok-push_duration.ensures c.in_ok-push_counts.ensures
    (c.in_ok-push_start.ensures ∙ ap (λ (n : List ℕ). string_bytes c.push_counts.new.text ++ spec.start n) c.as_str.ensures))
    c.push_id.ensures
