use Rattle.otel_otlp.proofs.Tokens.{token, last_token, object_of_one}
use Rattle.otel_otlp.proofs.common.text_value.Goals as goal

pub returns : goal.returns
returns c =
    last_token c.end_object.result c.end_object.ensures
    (object_of_one (token c.in_ok-begin_object.was c.begin_object.ensures) c.in_ok-put_text.ensures)
