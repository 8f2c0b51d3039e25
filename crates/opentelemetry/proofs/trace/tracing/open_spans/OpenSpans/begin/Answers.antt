use Rattle.std.proofs.Common.{◌≡◌, ◌∙◌, ◌<◌, ◌∷◌, List, ap, reverse, subst, sym, vec_capacity}
use Rattle.otel_context.specs.Spans as table
use Rattle.otel_context.specs.Spans.{SpansState}
use Rattle.opentelemetry.specs.OpenSpans.{Begins, IsSound, OpenState}
use Rattle.opentelemetry.specs.Tracing.{FallBelow}
use Rattle.opentelemetry.specs.declared.trace.tracing.open_spans.OpenSpan.{OpenSpan}
use Rattle.opentelemetry.proofs.OpenLemmas.{reverse-last, sound-begin}
use Rattle.opentelemetry.proofs.trace.tracing.open_spans.OpenSpans.begin.Goals as goal

-- the span was written back under its number
written : (g : _) (c : goal.After-push_reserved g) → c.get_mut.follows.lender c.begin.new.span
    ≡ table.replace c.self.inside.spans c.args.place.number c.begin.new.span
written g c = rw c.in-Some.is at (c.get_mut.follows.holds c.begin.new.span)

places : (g : _) (c : goal.After-push_reserved g) → reverse c.push_reserved.new.self.items
    ≡ c.args.place ∷ reverse c.self.inside.places.items
places g c = ap (λ (xs : List OpenSpan). reverse xs) c.push_reserved.ensures.items
    ∙ reverse-last c.self.inside.places.items c.args.place

pub invariant_of-self : goal.invariant_of-self
invariant_of-self g c =
    subst (λ (xs : List OpenSpan). IsSound g.B.SpanSource.calls c.begin.new.self (c.get_mut.follows.lender c.begin.new.span) xs) (sym (places g c))
    (sound-begin g.B.SpanSource.calls c.self.inside.source c.begin.new.self c.self.inside.spans (c.get_mut.follows.lender c.begin.new.span)
    (reverse c.self.inside.places.items) c.args.place c.begin.new.span
    (subst (λ (t : OpenState g.row.B.Denot g.row.B-Span.Denot). FallBelow c.args.place.number t.places) (sym c.self.view_is) c.requires.newest)
    (subst (λ (t : OpenState g.row.B.Denot g.row.B-Span.Denot). c.args.place.number < t.spans.next_number) (sym c.self.view_is) c.requires.given)
    (written g c) c.begin.ensures.begun c.begin.ensures.taken c.self.invariant)

pub returns : goal.returns
returns g c =
    subst (λ (t : OpenState g.row.B.Denot g.row.B-Span.Denot). Begins g.B.SpanSource.calls c.args.parent.now c.args.place t
    (record {
      source = c.begin.new.self;
      spans = c.get_mut.follows.lender c.begin.new.span;
      places = reverse c.push_reserved.new.self.items;
      capacity = vec_capacity c.push_reserved.new.self;
    })) c.self.view_is (record {
      built = c.in-Some.span.now;
      found = sym c.in-Some.ensures.value;
      span = c.begin.new.span;
      begins = c.begin.ensures.begins;
      same = λ i. record {
        source = c.begin.new.self;
        spans = written g c i;
        places = places g c i;
        capacity = c.push_reserved.ensures.capacity i;
      };
    })
