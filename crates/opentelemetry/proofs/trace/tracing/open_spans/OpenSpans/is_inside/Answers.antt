use Rattle.std.proofs.Common.{◌≡◌, ◌∙◌, ◌+◌, List, Option, Some, ap, false, reverse, slice_get, sym, take}
use Rattle.std.specs.Option.{option_map_or}
use Rattle.std.proofs.lemmas.List.{reverse-reverse}
use Rattle.opentelemetry.specs.OpenSpans.{OpenState}
use Rattle.opentelemetry.specs.Tracing as spec
use Rattle.opentelemetry.specs.declared.trace.tracing.open_spans.OpenSpan.{OpenSpan}
use Rattle.opentelemetry.proofs.OpenLemmas.{inside-at}
use Rattle.opentelemetry.proofs.trace.tracing.open_spans.OpenSpans.is_inside.Goals as goal

pub returns : goal.returns
returns g c =
    let at : slice_get c.self.inside.places.items c.args.index ≡ Some c.place.result =
    ap (λ (xs : List OpenSpan). slice_get xs c.args.index) (sym (reverse-reverse c.self.inside.places.items))
    ∙ ap (λ (t : OpenState g.row.B.Denot g.row.B-Span.Denot). slice_get (reverse t.places) c.args.index) c.self.view_is
    ∙ c.place.ensures in
    c.is_inside.ensures
    ∙ ap (λ (xs : List OpenSpan). spec.is_inside c.args.outer (reverse (take (c.args.index + 1) xs)) c.place.result.number) c.deref.ensures.value
    ∙ sym (inside-at g.B.SpanSource.calls c.self.inside.source c.self.inside.spans c.self.inside.places.items c.args.index c.place.result at
    c.self.invariant c.args.outer)
    ∙ ap (λ (t : OpenState g.row.B.Denot g.row.B-Span.Denot). spec.is_inside c.args.outer t.places c.place.result.number) c.self.view_is
    ∙ sym (ap (λ (o : Option OpenSpan). option_map_or (λ e. spec.is_inside c.args.outer c.args.self.now.places e.number) o false) c.place.ensures)
