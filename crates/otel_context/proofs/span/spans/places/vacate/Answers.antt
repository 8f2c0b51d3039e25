use Rattle.std.proofs.Common.{◌≡◌, ◌+◌, length, None, Some, subst, refl, arith}
use Rattle.otel_context.specs.SpanPlaces.{Finds, IsIndexOf}
use Rattle.otel_context.specs.declared.span.spans.places.Place.{Place}
use Rattle.otel_context.proofs.SpanPlaces.{none-out, sets-out, pops-out}
use Rattle.otel_context.proofs.span.spans.places.vacate.Goals as goal

pub returns-in_err-index : goal.returns-in_err-index
returns-in_err-index c =
    let ss = c.args.places.now.items in
    let absent : Finds ss c.args.number None = subst (λ l. Finds l c.args.number None) c.deref.ensures.value c.in_err-index.ensures in
    rw c.from_residual.ensures (none-out c.args.number ss absent)

pub returns-then-index-len : goal.returns-then-index-len
returns-then-index-len c =
    let ss = c.args.places.now.items in
    let i = c.in_ok-index.index in
    let at : IsIndexOf ss c.args.number (Some i) = subst (λ l. IsIndexOf l c.args.number (Some i)) c.deref.ensures.value c.in_ok-index.ensures in
    let last : i + 1 ≡ length ss = omega (arith, c.if-index-len.true, c.len.ensures, c.args.places.now.ok.0) in
    pops-out c.args.number i ss c.pop.new.self.items c.in_ok-pop.field-0 at last c.in_ok-pop.ensures.items

pub returns : goal.returns
returns c =
    let ss = c.args.places.now.items in
    let i = c.in_ok-index.index in
    let s = c.index_mut.result.now in
    let at : IsIndexOf ss c.args.number (Some i) = subst (λ l. IsIndexOf l c.args.number (Some i)) c.deref.ensures.value c.in_ok-index.ensures in
    let emptied : Place = record { number = s.number; slot = c.take.new.self } in
    rw c.take.ensures.value (sets-out c.args.number i ss s emptied at c.index_mut.ensures.value refl c.take.ensures.after)
