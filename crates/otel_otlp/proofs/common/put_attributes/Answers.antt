use Rattle.std.proofs.Common.{map, arith}
use Rattle.std.proofs.lemmas.Grind.{common_steps}
use Rattle.std.proofs.lemmas.List.{length-map}
use Rattle.otel_base.specs.View.{attribute_of}
use Rattle.otel_otlp.specs.Common.{key_value}
use Rattle.otel_otlp.proofs.Tokens.{last_token, some_list}
use Rattle.otel_otlp.proofs.common.put_attributes.Goals as goal

pub returns : goal.returns
returns c =
    let xs = c.args.attributes.now in
    last_token c.end_array.result c.end_array.ensures
    (some_list (λ none. absurd (grind (arith, common_steps, none, length-map (map attribute_of xs) key_value, length-map xs attribute_of, c.if-is_empty.false, c.is_empty.ensures)))
    c.in_ok-begin_list.ensures c.in_ok-key_values.ensures)
