use Rattle.std.proofs.Common.{ℕ, ap, ◌∙◌, string_bytes}
use Rattle.otel_waterfall.specs.Bar.{cell_of}
use Rattle.otel_waterfall.specs.PageRow as spec
use Rattle.otel_waterfall.proofs.Joins.{says}
use Rattle.otel_waterfall.proofs.page.row.push_rectangle.Goals as goal

pub returns : goal.returns
returns c =
    let scale = c.args.scale in
    says c.push_html.result (string_bytes c.args.text.now) c.as_str.result.now (spec.rectangle_of scale.cells scale.from scale.to c.args.start c.args.end) (string_bytes c.push_html.new.text)
    (c.as_str.ensures.value ∙ c.in_ok-bar.ensures.ok
    ∙ ap (λ (f : ℕ). spec.rectangle f c.filled-width.result) c.cell_of-first.ensures
    ∙ ap (spec.rectangle (cell_of scale.cells scale.from scale.to c.args.start)) c.filled-width.ensures)
    c.push_html.ensures
