use Rattle.std.proofs.Common.{◌≡◌, is_some, rules}
use Rattle.std.specs.List.{filter}
use Rattle.std.proofs.lemmas.Fn.{filter_same}
use Rattle.otel_context.proofs.SpanPlaces.{keeps-live}
use Rattle.otel_context.proofs.span.spans.places.drop_vacant.Goals as goal

pub returns : goal.returns
returns c =
    let ss = c.args.places.now.items in
    let e : c.retain.new.self.items ≡ filter (λ s. is_some s.slot) ss = filter_same _ _ _ (λ x b f' k. search rules) _ _ c.retain.ensures.filtered in
    rw e (keeps-live ss)
