use Rattle.std.proofs.Common.{◌≡◌, codes, map, rules}
use Rattle.otel_base.specs.View.{attribute_of}
use Rattle.otel_otlp.specs.Common.{attributes_member, unique}
use Rattle.otel_otlp.specs.Json.{text_member, text_if_given}
use Rattle.otel_otlp.proofs.MessagesInOrder.{scope_group, scope_proper}
use Rattle.otel_otlp.proofs.Tokens.{token, last_token, whole_object, and_members, and_no_more, same}
use Rattle.otel_otlp.proofs.common.instrumentation_scope.Goals as goal

pub returns : goal.returns
returns c =
    let s = c.args.scope.now in
    let attributes : map attribute_of c.as_slice.result.now ≡ unique s.attributes = search rules in
    last_token c.end_object.result c.end_object.ensures
    (whole_object (scope_group s) (scope_proper s) (token c.in_ok-begin_object.was c.begin_object.ensures)
    (and_members (same attributes_member attributes c.in_ok-put_attributes.ensures)
    (and_members (same (text_member (codes "name")) c.name.ensures c.in_ok-put_text.ensures) (and_no_more (same (text_if_given (codes "version")) c.version.ensures c.in_ok-put_text_if_given.ensures)))))
