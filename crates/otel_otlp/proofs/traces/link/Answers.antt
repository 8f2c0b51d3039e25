use Rattle.std.proofs.Common.{◌≡◌, ap, codes, map, rules}
use Rattle.opentelemetry.specs.View.{link_of}
use Rattle.otel_base.specs.View.{attribute_of}
use Rattle.otel_otlp.specs.Common.{attributes_member}
use Rattle.otel_otlp.specs.Json.{number_member, text_member, span_id_text}
use Rattle.otel_otlp.specs.Traces.{flags}
use Rattle.otel_otlp.proofs.MessagesInOrder.{link_group, link_proper}
use Rattle.otel_otlp.proofs.Tokens.{token, last_token, whole_object, and_members, and_no_more, same}
use Rattle.otel_otlp.proofs.traces.link.Goals as goal

pub returns : goal.returns
returns c =
    let l = link_of c.args.link.now in
    let bits : c.flags.result ≡ flags l.span_context.trace_flags l.span_context.is_remote = search rules in
    last_token c.end_object.result c.end_object.ensures
    (whole_object (link_group l) (link_proper l) (token c.in_ok-begin_object.was c.begin_object.ensures)
    (and_members (same attributes_member (ap (map attribute_of) c.as_slice.ensures.value) c.in_ok-put_attributes.ensures)
    (and_members c.in_ok-put_number_unless_zero.ensures
    (and_members (same (number_member (codes "flags")) bits c.in_ok-put_number.ensures)
    (and_members (same (λ id. text_member (codes "spanId") (span_id_text id)) c.span_id.ensures c.in_ok-put_span_id.ensures)
    (and_no_more c.in_ok-put_trace.ensures))))))
