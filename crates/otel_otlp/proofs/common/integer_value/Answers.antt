use Rattle.std.proofs.Common.{subst, w64}
use Rattle.std.proofs.lemmas.Int.{to_z-of_z}
use Rattle.otel_otlp.specs.Common.{integer_value}
use Rattle.otel_otlp.specs.Tokens.{HasValue}
use Rattle.otel_otlp.proofs.Tokens.{token, last_token, object_of_one}
use Rattle.otel_otlp.proofs.common.integer_value.Goals as goal

pub returns : goal.returns
returns c =
    last_token c.end_object.result c.end_object.ensures (λ ends.
    subst (λ z. HasValue c.args.out.now c.end_object.new.self (integer_value z)) (to_z-of_z w64 c.args.value c.ranges.value)
    (object_of_one (token c.in_ok-begin_object.was c.begin_object.ensures) c.in_ok-put_integer.ensures ends))
