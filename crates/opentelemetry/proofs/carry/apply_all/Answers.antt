use Rattle.std.proofs.Common.{◌≡◌, ◌∷◌, ◌++◌, [], List, length, arith, append-nil, append_assoc, sym, ap, subst, ◌∙◌}
use Rattle.std.proofs.lemmas.List.{nil_from_length}
use Rattle.std.specs.Vec.Iter.{into_iter_items}
use Rattle.opentelemetry.specs.Progress.{Stands}
use Rattle.opentelemetry.specs.declared.carry.event.StackEvent.{StackEvent}
use Rattle.opentelemetry.proofs.carry.apply_all.Goals as goal

pub loop-event-init : goal.loop-event-init
loop-event-init c = (
  λ done s. subst (λ (es : List StackEvent). Stands es c.args.outcomes.now.items c.args.positions.now.items c.args.stack.now) (sym (append-nil done)) s,
  sym c.into_iter-event-iterator.ensures.into_iter_gives.0,
  omega (arith, ap length c.into_iter-event-iterator.ensures.into_iter_gives.0, c.args.events.ok.0),
)

pub loop-event-preserved : goal.loop-event-preserved
loop-event-preserved c = (
  λ done s. subst (λ (es : List StackEvent). Stands es c.apply.new.outcomes.items c.apply.new.positions.items c.apply.new.stack)
      (append_assoc done c.loop-event.yielded (c.in-Some.event ∷ []))
      (c.in_ok-apply.ensures (done ++ c.loop-event.yielded) (c.loop-event.invariant.0 done s)),
  c.loop-event.invariant.1 ∙ ap (λ (es : List StackEvent). c.loop-event.yielded ++ es) c.in-Some.ensures.steps.0
      ∙ sym (append_assoc c.loop-event.yielded (c.in-Some.event ∷ []) (into_iter_items c.next.new.self)),
  omega (arith, ap length c.in-Some.ensures.steps.0),
)

pub returns : goal.returns
returns c = λ done s.
    let all : c.args.events.items ≡ c.loop-event.yielded =
    c.loop-event.invariant.1 ∙ ap (λ (es : List StackEvent). c.loop-event.yielded ++ es) (nil_from_length (into_iter_items c.loop-event.event-iterator) (omega (arith, c.in-None.ensures.steps.0))) ∙ append-nil c.loop-event.yielded in
    subst (λ (es : List StackEvent). Stands (done ++ es) c.loop-event.outcomes.items c.loop-event.positions.items c.loop-event.stack) (sym all) (c.loop-event.invariant.0 done s)
