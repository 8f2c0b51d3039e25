use Rattle.std.proofs.Common.{refl, ap, subst}
use Rattle.otel_context.specs.SpanPlaces.{Finds}
use Rattle.otel_context.specs.View.{map_of, spans_of}
use Rattle.otel_context.proofs.SpanSlots.{OnSome-map, value-of, replaced-lent}
use Rattle.otel_context.proofs.span.spans.Spans.get_mut.Goals as goal

pub returns : goal.returns
returns g c =
    let t = c.self.inside in
    let m = map_of t.places.items in
    let x = c.self.invariant.1 in
    let q = c.args.number in
    let o = c.slot_of.result in
    let lent = c.span_mut.result in
    let value = c.span_mut.ensures.value in
    let finds : Finds t.places.items q o = subst (λ l. Finds l q o) c.deref.ensures.value c.slot_of.ensures in
    let at = finds t.next c.self.invariant.0 in
    let f = c.span_mut.follows in (
      (
        refl,
        λ w. OnSome-map lent (λ e. rw (← c.self.view_is) (ap (λ spans. record { spans = spans; next_number = t.next }) e))
            (replaced-lent t.slots.items (f.lender w).items m x q o at lent w value (f.holds w).0 (f.holds w).1),
        rw (← c.self.view_is) (ap (λ ss. record { spans = spans_of ss; next_number = t.next }) f.holds-at-none),
      ),
      record { writes_back = tt; value = rw (← c.self.view_is) (value-of t.slots.items m x q o at _ value) },
    )
