use Rattle.std.proofs.Common.{subst}
use Rattle.otel_sdk_span.specs.SpanData.{SpanRecord}
use Rattle.otel_otlp.specs.Tokens.{HasMembers}
use Rattle.otel_otlp.specs.Traces.{losses}
use Rattle.otel_otlp.proofs.Tokens.{last, and_members}
use Rattle.otel_otlp.proofs.traces.put_losses.Goals as goal

pub returns : goal.returns
returns c =
    last c.put_number_unless_zero-3.result c.put_number_unless_zero-3.ensures (λ third.
    subst (λ (d : SpanRecord). HasMembers c.args.out.now c.put_number_unless_zero-3.new.out (losses d)) c.span.view_is
    (and_members (and_members c.in_ok-put_number_unless_zero.ensures c.in_ok-put_number_unless_zero-2.ensures) third))
