use Rattle.std.proofs.Common.{◌≡◌, map, rules}
use Rattle.otel_base.specs.View.{attribute_of}
use Rattle.otel_otlp.specs.Common.{attributes_member}
use Rattle.otel_otlp.proofs.MessagesInOrder.{resource_group, resource_proper}
use Rattle.otel_otlp.proofs.Tokens.{token, last_token, whole_object, and_no_more, same}
use Rattle.otel_otlp.proofs.common.resource.Goals as goal

pub returns : goal.returns
returns c =
    let r = c.args.resource.now in
    let attributes : map attribute_of c.as_slice.result.now ≡ r.attributes = search rules in
    last_token c.end_object.result c.end_object.ensures
    (whole_object (resource_group r) (resource_proper r) (token c.in_ok-begin_object.was c.begin_object.ensures)
    (and_no_more (same attributes_member attributes c.in_ok-put_attributes.ensures)))
