use Rattle.std.proofs.Common.{◌≡◌, ℕ, List, ◌++◌, ◌∙◌, subst, codes, string_bytes}
use Rattle.std.specs.Prelude.{OnOk}
use Rattle.otel_waterfall.specs.Escape.{between}
use Rattle.otel_waterfall.proofs.page.row.push_duration.Goals as goal

pub returns : goal.returns
returns c =
    subst (λ (t : List ℕ). OnOk c.push_between.result (string_bytes c.push_between.new.text ≡ string_bytes c.args.text.now ++ between (codes "<span class=time>") t (codes "</span>")))
    (c.as_str.ensures.value ∙ c.in_ok-duration.ensures) c.push_between.ensures
