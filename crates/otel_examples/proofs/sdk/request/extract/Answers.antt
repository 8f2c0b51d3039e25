use Rattle.std.proofs.Common.{subst}
use borrow.Pointer.Hide.{carried_same}
use Rattle.opentelemetry.specs.Carrier.{TextMap}
use Rattle.opentelemetry.specs.Extraction.{Extracts}
use Rattle.otel_examples.proofs.sdk.request.extract.OwnLists as own
use Rattle.otel_examples.proofs.sdk.request.extract.Goals as goal

pub returns : goal.returns
returns g c =
    subst (λ (t : TextMap). Extracts (g.P.TextMapPropagator.extracted c.args.propagator.now c.args.context.now t) (g.P.TextMapPropagator.may_refuse c.args.propagator.now) c.extract_with_context.result)
    (carried_same _ _ own.entry-1-1 (own.own-1.entry own.at-1-1) own.same-1-1 TextMap (λ j r. j.1.texts r.now) _)
    c.extract_with_context.ensures
