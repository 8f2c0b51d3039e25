use Rattle.std.proofs.Common.{◌++◌, ap, ◌∙◌, string_bytes}
use Rattle.json.specs.Print.{print}
use Rattle.otel_otlp.specs.Groups.{batch_value}
use Rattle.otel_otlp.specs.Tokens.{value_tokens}
use Rattle.otel_otlp.proofs.Tokens.{text_of_tokens}
use Rattle.otel_otlp.proofs.groups.batch_text.Goals as goal

pub returns : goal.returns
returns g c =
    let value = batch_value g.R.Grouped.form c.args.resource.now c.args.batch.now in
    let written = c.in_ok-batch_value.ensures in
    let tokens = c.batch_value.new.out.tokens in
    let before = written.appended.before ∙ c.new-out.ensures.before ∙ c.new.ensures.items in
    text_of_tokens value tokens (string_bytes c.in-Ok.text) written.readable
    (written.appended.tokens ∙ ap (λ ts. ts ++ value_tokens value) c.new-out.ensures.tokens)
    (ap (λ v. v.items) c.in-Ok.ensures.ok ∙ c.into_inner.ensures.items ∙ ap (λ bs. bs ++ print tokens) before)
    c.into_inner.ensures.reads_back
