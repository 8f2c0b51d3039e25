use Rattle.std.proofs.Common.{ℕ, subst}
use Rattle.otel_otlp.specs.Tokens.{HasMembers}
use Rattle.otel_otlp.proofs.LogTokens.{happened, observed, severity, severity_text, event_name, body, lost, trace_id, span_id, flags, same_members, whole_log}
use Rattle.otel_otlp.proofs.Tokens.{token, last_token, and_members, and_no_more}
use Rattle.otel_otlp.proofs.logs.log_record.Goals as goal

pub returns : goal.returns
returns c =
    let same = c.log.view_is in
    last_token c.end_object.result c.end_object.ensures (λ ends.
    whole_log c.args.log.now (token c.in_ok-begin_object.was c.begin_object.ensures)
    (and_members c.in_ok-put_attributes.ensures
    (and_members (same_members body same c.in_ok-put_body.ensures)
    (and_members (subst (λ (n : ℕ). HasMembers c.put_body.new.out c.put_number_unless_zero.new.out (lost n)) c.dropped.ensures c.in_ok-put_number_unless_zero.ensures)
    (and_members (same_members event_name same c.in_ok-put_name.ensures)
    (and_members (same_members flags same c.in_ok-put_flags.ensures)
    (and_members (same_members observed same c.in_ok-put_decimal_if_given.ensures)
    (and_members (same_members severity same c.in_ok-put_severity.ensures)
    (and_members (same_members severity_text same c.in_ok-put_name-2.ensures)
    (and_members (same_members span_id same c.in_ok-put_span.ensures)
    (and_members (same_members happened same c.in_ok-put_decimal_if_given-2.ensures)
    (and_no_more (same_members trace_id same c.in_ok-put_trace.ensures))))))))))))
    ends)
