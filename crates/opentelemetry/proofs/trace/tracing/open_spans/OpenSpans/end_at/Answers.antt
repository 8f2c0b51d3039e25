use Rattle.std.proofs.Common.{◌≡◌, ◌∙◌, ◌<◌, ℕ, List, None, Some, ap, arith, get_or, length, refl, reverse, slice_get, subst, sym, vec_capacity}
use Rattle.std.proofs.lemmas.List.{length-reverse, reverse-reverse}
use Rattle.std.proofs.lemmas.Option.{slice_get_read}
use Rattle.otel_context.specs.Spans as table
use Rattle.otel_context.specs.Spans.{SpansState}
use Rattle.opentelemetry.specs.OpenSpans.{EndsAt, IsSound, OpenState}
use Rattle.opentelemetry.specs.declared.trace.tracing.open_spans.OpenSpan.{OpenSpan}
use Rattle.opentelemetry.proofs.OpenLemmas.{held-at, sound-end, without-at}
use Rattle.opentelemetry.proofs.trace.tracing.open_spans.OpenSpans.end_at.Goals as goal

-- the place at the index
at_index : {B S : Type 0} (t u : OpenState B S) (xs : List OpenSpan) (i : ℕ) (e : OpenSpan) → reverse xs ≡ t.places → t ≡ u
    → i < length u.places → e ≡ get_or xs i e → slice_get xs i ≡ Some e
at_index t u xs i e is view lt read =
    let n : length u.places ≡ length xs = ap (λ (s : OpenState _ _). length s.places) (sym view)
    ∙ ap (λ (ys : List OpenSpan). length ys) (sym is) ∙ length-reverse xs in
    slice_get_read xs (length xs) i e refl (omega (arith, n, lt)) read

pub invariant_of-self : goal.invariant_of-self
invariant_of-self g c =
    let at : slice_get c.self.inside.places.items c.args.index ≡ Some c.remove-place.result =
    at_index _ _ c.self.inside.places.items c.args.index c.remove-place.result refl c.self.view_is c.requires c.remove-place.ensures.value in
    subst (λ (xs : List OpenSpan). IsSound g.B.SpanSource.calls c.take-in-Some.new.self c.take.new.self (reverse xs)) (sym c.remove-place.ensures.items)
    (sound-end g.B.SpanSource.calls c.self.inside.source c.self.inside.spans c.self.inside.places.items c.args.index c.remove-place.result
    at c.self.invariant c.take-in-Some.new.self c.take.new.self c.in-Some.span c.end_with_timestamp.new.self
    (sym c.take.ensures.value ∙ c.in-Some.is)
    (ap (λ (s : g.row.B-Span.Denot). g.B.SpanSource.calls.ids_of s) c.end_with_timestamp.ensures
    ∙ g.met.B.SpanSource.keeps_ids.end c.in-Some.span c.args.timestamp)
    c.take.ensures.taken c.take-in-Some.ensures.begun c.take-in-Some.ensures.taken)

pub unreachable-requires : goal.unreachable-requires
unreachable-requires g c =
    let at : slice_get c.self.inside.places.items c.args.index ≡ Some c.remove-place.result =
    at_index _ _ c.self.inside.places.items c.args.index c.remove-place.result refl c.self.view_is c.requires c.remove-place.ensures.value in
    let held = held-at g.B.SpanSource.calls c.self.inside.source c.self.inside.spans c.self.inside.places.items c.args.index
    c.remove-place.result at c.self.invariant in
    let none : table.get c.self.inside.spans c.remove-place.result.number ≡ None = sym c.take.ensures.value ∙ c.in-None.is in
    absurd (cc held.1)

pub returns : goal.returns
returns g c =
    let at : slice_get c.self.inside.places.items c.args.index ≡ Some c.remove-place.result =
    at_index _ _ c.self.inside.places.items c.args.index c.remove-place.result refl c.self.view_is c.requires c.remove-place.ensures.value in
    subst (λ (t : OpenState g.row.B.Denot g.row.B-Span.Denot). EndsAt g.B.SpanSource.calls g.B.Span.Span.after_end c.args.timestamp c.args.index t
    (record {
      source = c.take-in-Some.new.self;
      spans = c.take.new.self;
      places = reverse c.remove-place.new.self.items;
      capacity = vec_capacity c.remove-place.new.self;
    })) c.self.view_is (record {
      place = c.remove-place.result;
      is_at = ap (λ (xs : List OpenSpan). slice_get xs c.args.index) (reverse-reverse c.self.inside.places.items) ∙ at;
      span = c.in-Some.span;
      found = sym c.take.ensures.value ∙ c.in-Some.is;
      taken = subst (λ (s : g.row.B-Span.Denot). g.B.SpanSource.calls.takes c.self.inside.source s c.take-in-Some.new.self)
          c.end_with_timestamp.ensures c.take-in-Some.ensures.takes;
      same = λ i. record {
        source = c.take-in-Some.new.self;
        spans = c.take.ensures.taken i;
        places = (ap (λ (xs : List OpenSpan). reverse xs) c.remove-place.ensures.items
            ∙ without-at g.B.SpanSource.calls c.self.inside.source c.self.inside.spans c.self.inside.places.items c.args.index
            c.remove-place.result at c.self.invariant) i;
        capacity = c.remove-place.ensures.capacity i;
      };
    })
