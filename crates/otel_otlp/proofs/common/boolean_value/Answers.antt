use Rattle.serde_json.specs.Data.{boolean}
use Rattle.otel_otlp.proofs.Tokens.{token, last_token, whole_member, object_of_one, readable_boolean, one_token}
use Rattle.otel_otlp.proofs.common.boolean_value.Goals as goal

pub returns : goal.returns
returns c =
    last_token c.end_object.result c.end_object.ensures
    (object_of_one (token c.in_ok-begin_object.was c.begin_object.ensures)
    (whole_member (token c.in_ok-key.was c.key.ensures) (one_token (boolean c.args.value) (token c.in_ok-boolean.was c.boolean.ensures) (readable_boolean c.args.value))))
