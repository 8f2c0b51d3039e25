use Rattle.std.proofs.Common.{subst}
use Rattle.otel_base.specs.View.{value_of}
use Rattle.otel_otlp.specs.Common.{pair, any_value}
use Rattle.otel_otlp.specs.Tokens.{HasValue}
use Rattle.otel_otlp.proofs.Tokens.{last_token, whole_pair}
use Rattle.otel_otlp.proofs.common.key_value.Goals as goal

pub returns : goal.returns
returns c =
    last_token c.end_object.result c.end_object.ensures (λ ends.
    subst (λ k. HasValue c.args.out.now c.end_object.new.self (pair k (any_value (value_of c.args.attribute.now.value)))) c.as_str.ensures
    (whole_pair c.in_ok-begin_pair.ensures c.in_ok-any_value.ensures ends))
