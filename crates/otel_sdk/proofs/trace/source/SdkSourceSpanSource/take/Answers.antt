use Rattle.std.proofs.Common.{◌∙◌, List, ap, sym, subst}
use Rattle.otel_sdk.specs.Processor.{data_of}
use Rattle.otel_sdk.proofs.Received.{data-none, data-some}
use Rattle.otel_sdk_span.specs.SpanData.{SpanRecord}
use Rattle.otel_sdk.proofs.trace.source.SdkSourceSpanSource.take.Goals as goal

pub invariant_of-self : goal.invariant_of-self
invariant_of-self g c =
    let more = ap data_of c.and.ensures
    ∙ data-some c.self.inside.taken.items c.args.span c.in-Some.data (sym c.into_data.ensures ∙ c.in-Some.is) in
    subst (λ (xs : List SpanRecord). g.X.SpanProcessor.calls.AccountsFor c.on_end.new.self xs) (sym more)
    (c.on_end.ensures.account (data_of c.self.inside.taken.items) c.self.invariant)

pub invariant_of-self-in_default : goal.invariant_of-self-in_default
invariant_of-self-in_default g c =
    let same = ap data_of c.and.ensures
    ∙ data-none c.self.inside.taken.items c.args.span (sym c.into_data.ensures ∙ c.in_default.is) in
    subst (λ (xs : List SpanRecord). g.X.SpanProcessor.calls.AccountsFor c.self.inside.processors xs) (sym same)
    c.self.invariant
