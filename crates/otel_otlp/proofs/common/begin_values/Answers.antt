use Rattle.otel_otlp.proofs.Tokens.{token, last, followed}
use Rattle.otel_otlp.proofs.common.begin_values.Goals as goal

pub returns : goal.returns
returns c =
    last c.begin_list.result c.begin_list.ensures (λ list.
    followed (token c.in_ok-begin_object.was c.begin_object.ensures) (followed (token c.in_ok-key.was c.key.ensures)
    (followed (token c.in_ok-begin_object-2.was c.begin_object-2.ensures) list)))
