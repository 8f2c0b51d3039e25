use Rattle.std.proofs.Common.{codes, subst, ◌∙◌}
use Rattle.otel_otlp.specs.Json.{object_of, text_member}
use Rattle.otel_otlp.specs.Tokens.{WritesValue}
use Rattle.otel_otlp.proofs.Tokens.{token, last_token, object_of_one}
use Rattle.otel_otlp.proofs.trees.bytes_value.Goals as goal

pub returns : goal.returns
returns c =
    subst (λ s. WritesValue c.end_object.result c.args.out.now c.end_object.new.self (object_of (text_member (codes "bytesValue") s)))
    (c.as_str.ensures.value ∙ c.in_ok-text.ensures.text)
    (last_token c.end_object.result c.end_object.ensures
    (object_of_one (token c.in_ok-begin_object.was c.begin_object.ensures) c.in_ok-put_text.ensures))
