use Rattle.std.proofs.Common.{ap, codes, map}
use Rattle.opentelemetry.specs.View.{event_of}
use Rattle.otel_base.specs.View.{attribute_of}
use Rattle.otel_otlp.specs.Common.{attributes_member}
use Rattle.otel_otlp.specs.Json.{text_member}
use Rattle.otel_otlp.proofs.MessagesInOrder.{event_group, event_proper}
use Rattle.otel_otlp.proofs.Tokens.{token, last_token, whole_object, and_members, and_no_more, same}
use Rattle.otel_otlp.proofs.traces.event.Goals as goal

pub returns : goal.returns
returns c =
    let e = event_of c.args.event.now in
    last_token c.end_object.result c.end_object.ensures
    (whole_object (event_group e) (event_proper e) (token c.in_ok-begin_object.was c.begin_object.ensures)
    (and_members (same attributes_member (ap (map attribute_of) c.as_slice.ensures.value) c.in_ok-put_attributes.ensures)
    (and_members c.in_ok-put_number_unless_zero.ensures
    (and_members (same (text_member (codes "name")) c.as_str.ensures c.in_ok-put_text.ensures) (and_no_more c.in_ok-put_decimal.ensures)))))
