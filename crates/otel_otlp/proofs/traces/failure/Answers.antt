use Rattle.otel_otlp.proofs.MessagesInOrder.{failure_group, failure_proper}
use Rattle.otel_otlp.proofs.Tokens.{token, last_token, whole_object, and_members, and_no_more}
use Rattle.otel_otlp.proofs.traces.failure.Goals as goal

pub returns : goal.returns
returns c =
    last_token c.end_object.result c.end_object.ensures
    (whole_object (failure_group c.args.description.now) (failure_proper c.args.description.now) (token c.in_ok-begin_object.was c.begin_object.ensures)
    (and_members c.in_ok-put_number.ensures (and_no_more c.in_ok-put_text_unless_empty.ensures)))
