use Rattle.std.proofs.Common.{Some, refl, subst}
use Rattle.otel_context.specs.SpanPlaces.{IsIndexOf}
use Rattle.otel_context.specs.declared.span.spans.places.Place.{Place}
use Rattle.otel_context.proofs.SpanPlaces.{moves-set}
use Rattle.otel_context.proofs.span.spans.places.move_to.Goals as goal

pub returns-in-Some : goal.returns-in-Some
returns-in-Some c =
    let ss = c.args.places.now.items in
    let i = c.in-Some.index in
    let s = c.index_mut.result.now in
    let at : IsIndexOf ss c.args.number (Some i) = subst (λ l. IsIndexOf l c.args.number (Some i)) c.deref.ensures.value c.in-Some.ensures in
    let moved : Place = record { number = s.number; slot = Some c.args.slot } in
    moves-set c.args.number i ss s moved c.args.slot at c.index_mut.ensures.value refl refl
