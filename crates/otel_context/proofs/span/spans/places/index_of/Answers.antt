use Rattle.std.proofs.Common.{None, arith, rules}
use Rattle.std.proofs.lemmas.List.Sorted.{answers_always}
use Rattle.otel_context.proofs.SpanPlaces.{absent-map, absent-last, searched}
use Rattle.otel_context.proofs.span.spans.places.index_of.Goals as goal
use Rattle.otel_context.proofs.span.spans.places.index_of.Goals.{then-len-eq0-via-then-len-eq0, then-len-eq0-via-else-len-eq0+then-places-len}

pub returns-then-len-eq0 : goal.returns-then-len-eq0
returns-then-len-eq0 c = λ next a. elim c.then-len-eq0.branch [
  | then-len-eq0-via-then-len-eq0 w ↦ absent-map c.args.number c.args.places.now (λ k d l e. absurd (omega (arith, l, w.if-len-eq0.true)))
  | then-len-eq0-via-else-len-eq0+then-places-len w ↦
      absent-last c.args.number next c.args.places.now (record { number = 0; slot = None }) a (omega (arith, w.if-len-eq0.false)) w.if-places-len.true
]

pub returns : goal.returns
returns c = rw c.ok.ensures.value (searched c.args.number c.args.places.now c.binary_search_by_key.result c.binary_search_by_key.ensures.bound (c.binary_search_by_key.ensures.position (λ s. s.number) (answers_always _ _ _ (λ f a r h called. search rules))))
