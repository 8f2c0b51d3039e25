use Rattle.std.proofs.Common.{ℕ, List, map, sym, ap, subst}
use Rattle.opentelemetry.specs.Carrier.{AreKeys}
use Rattle.otel_c.specs.Values.{texts_of}
use Rattle.otel_c.proofs.Given.{are_keys}
use Rattle.otel_c.proofs.values.ValuesExtractor.keys.Goals as goal

pub returns : goal.returns
returns c =
    let v = c.args.self.now in
    subst (λ (ks : List (List ℕ)). AreKeys
    (texts_of v.baggage.now v.traceparent.now v.tracestate.now) ks)
    (sym (ap (map (λ t. t.now)) c.in_ok-vec.ensures.items))
    (are_keys v.baggage.now v.traceparent.now v.tracestate.now)
