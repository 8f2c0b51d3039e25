use Rattle.std.proofs.Common.{◌≡◌, ℕ, List, ◌++◌, ◌∙◌, subst, codes, string_bytes}
use Rattle.std.specs.Prelude.{OnOk}
use Rattle.otel_waterfall.specs.Escape.{between}
use Rattle.otel_waterfall.proofs.page.details.push_offset.Goals as goal

pub returns : goal.returns
returns c =
    subst (λ (t : List ℕ). OnOk c.push_between.result (string_bytes c.push_between.new.text ≡ string_bytes c.args.text.now ++ between (codes "<span class=at>") t (codes "</span>")))
    (c.as_str.ensures.value ∙ c.in_ok-offset.ensures) c.push_between.ensures
