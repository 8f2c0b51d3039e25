use Rattle.std.proofs.Common.{◌≡◌, Some, false, ap, ◌∙◌}
use Rattle.otel_sdk_span.specs.Span.{SpanState}
use Rattle.otel_sdk_span.specs.Span as spec
use Rattle.otel_sdk_span.specs.SpanData.{SpanRecord}
use Rattle.otel_sdk_span.proofs.SpanContexts.{of_within}
use Rattle.otel_sdk_span.proofs.span.SdkSpan.new.Goals as goal

pub returns : goal.returns
returns c =
    let given : c.deref_mut.result.now ≡ c.args.given = c.deref_mut.ensures.value ∙ c.in_ok-recorded.ensures.ok in
    let is = c.in_ok-keep_within.ensures ∙ ap (spec.keep_within c.args.limits) given in
    λ i. let s : SpanState = record {
      context = (ap (λ (d : SpanRecord). d.span_context) is ∙ of_within c.args.limits c.args.given) i;
      recorded = Some (is i);
      limits = c.args.limits;
      has_ended = false;
    } in s
