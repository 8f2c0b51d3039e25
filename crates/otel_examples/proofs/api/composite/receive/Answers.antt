use borrow.Pointer.Hide.{carried_same}
use Rattle.opentelemetry.specs.Carrier.{TextMap}
use Rattle.opentelemetry.specs.Composite.{extracted_of}
use Rattle.otel_examples.proofs.Joined.{extracts_moved}
use Rattle.otel_examples.proofs.api.composite.receive.OwnLists as own
use Rattle.otel_examples.proofs.api.composite.receive.Goals as goal

pub returns : goal.returns
returns g c =
    extracts_moved (extracted_of (λ m. (goal.TextMapPropagator-dyn g (m.vtable, m.value)).extracted m.value) c.args.composite.now c.args.context.now) _ _ _ _
    (carried_same _ _ own.entry-2-1 (own.own-2.entry own.at-2-1) own.same-2-1 TextMap (λ j r. j.1.texts r.now) _)
    c.extract_with_context.ensures.extracted
