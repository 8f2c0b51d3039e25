use Rattle.std.proofs.Common.{◌≡◌, map, take, ◌+◌, sym, subst}
use Rattle.std.specs.List.{All, AllZip}
use Rattle.std.specs.Rc.{rc_value}
use Rattle.std.proofs.lemmas.List.Elements.{All-push}
use Rattle.serde_json.specs.View.{view}
use Rattle.otel_otlp.proofs.ReadLists.{zip_more, none_at}
use Rattle.otel_otlp.proofs.read.groups.each_item.Goals as goal

pub returns-in-Err-clause-err : goal.returns-in-Err-clause-err
returns-in-Err-clause-err g c = λ no.
    none_at g.I.Item.says view c.args.values.now c.loop-index.index _ _ c.loop-index-test.true
    c.index-values-index.is (c.in-Err.ensures.err (c.in_item.ensures.refusal no))

pub loop-index-preserved : goal.loop-index-preserved
loop-index-preserved g c =
    let says = g.I.Item.says in (
      subst (AllZip says (map view (take (c.loop-index.index + 1) c.args.values.now)))
          (sym c.in_ok-push-in-Ok.ensures.items)
          (zip_more says view c.args.values.now c.loop-index.index _ _ c.loop-index.read.items _
          c.loop-index-test.true c.index-values-index.is c.loop-index.invariant.0
          c.in-Ok.ensures.ok),
      subst (All (λ item. g.I.Grouped.form.scope_of item ≡ rc_value c.args.scope.now))
          (sym c.in_ok-push-in-Ok.ensures.items)
          (All-push (λ item. g.I.Grouped.form.scope_of item ≡ rc_value c.args.scope.now)
          c.loop-index.read.items _ c.loop-index.invariant.1 c.in-Ok.ensures.scope),
    )
