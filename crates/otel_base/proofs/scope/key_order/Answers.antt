use Rattle.std.proofs.Common.{map, take, arith, rules, Some, ap, ◌∙◌, ◌≡◌, take_all}
use Rattle.std.proofs.lemmas.List.{length-map}
use Rattle.std.proofs.lemmas.Fn.{always_returns_same}
use Rattle.otel_base.specs.View.{attribute_of}
use Rattle.otel_base.proofs.Sorting.{before, before-IsStrictWeakOrder, sorted_positions}
use Rattle.otel_base.proofs.Sorting.{positions_more}
use Rattle.otel_base.proofs.scope.key_order.Goals as goal

pub loop-position-preserved : goal.loop-position-preserved
loop-position-preserved c =
    let ps = map attribute_of c.args.attributes.now in (
      positions_more ps c.loop-position.positions.items c.push.new.self.items
          c.loop-position.position c.in_ok-push.ensures.items
          (omega (
            arith,
            length-map c.args.attributes.now attribute_of,
          )) c.loop-position.invariant.0,
      omega (arith, c.in_ok-push.ensures.len),
    )

pub returns-clause-order : goal.returns-clause-order
returns-clause-order c =
    let ps = map attribute_of c.args.attributes.now in
    let all : take c.loop-position.position ps ≡ ps =
    take_all c.loop-position.position ps
    (omega (arith, length-map c.args.attributes.now attribute_of)) in
    sorted_positions ps c.loop-position.positions.items c.sort_by.new.self.items
    (c.loop-position.invariant.0 ∙ ap (map (λ p. Some p)) all) c.sort_by.ensures.permutation
    (c.in_ok-sort_by.ensures.sorted (before ps) (before-IsStrictWeakOrder ps)
    (always_returns_same _ _ _ (λ a r f k. search rules)))
    (c.sort_by.ensures.stable (before ps) (before-IsStrictWeakOrder ps)
    (always_returns_same _ _ _ (λ a r f k. search rules)))
