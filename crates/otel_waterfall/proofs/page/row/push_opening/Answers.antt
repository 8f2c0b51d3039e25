use Rattle.std.proofs.Common.{ℕ, List, ◌++◌, ap, ◌∙◌, codes, string_bytes}
use Rattle.std.specs.Fmt.{decimal}
use Rattle.otel_waterfall.specs.PageRow as spec
use Rattle.otel_waterfall.proofs.Joins.{says}
use Rattle.otel_waterfall.proofs.page.row.push_opening.Goals as goal

pub returns : goal.returns
returns c =
    says c.push_html.result (string_bytes c.args.text.now) c.as_str.result.now (spec.opening c.args.outcome c.args.depth) (string_bytes c.push_html.new.text)
    (c.as_str.ensures.value ∙ c.in_ok-open.ensures.ok
    ∙ ap (λ (w : List ℕ). codes "<details class=\"row " ++ (w ++ (codes "\"><summary style=--depth:" ++ (decimal c.args.depth ++ codes ">")))) c.outcome_class-class.ensures)
    c.push_html.ensures
