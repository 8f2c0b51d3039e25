use Rattle.std.proofs.Common.{map, take, ◌+◌, ◌∷◌, [], sym, subst}
use Rattle.std.specs.List.{AllZip}
use Rattle.std.proofs.lemmas.List.{map-append}
use Rattle.serde_json.specs.View.{view}
use Rattle.otel_otlp.proofs.ReadLists.{zip_more, none_at}
use Rattle.otel_otlp.proofs.read.messages.read_each.Goals as goal

pub returns-in-Err-clause-err : goal.returns-in-Err-clause-err
returns-in-Err-clause-err g c = λ no.
    none_at g.M.Message.says view c.args.values.now c.loop-index.index _ _ c.loop-index-test.true
    c.index-values-index.is (c.in-Err.ensures.err (c.in_item.ensures.refusal no))

pub loop-index-preserved : goal.loop-index-preserved
loop-index-preserved g c =
    let says = g.M.Message.says in
    let seen = g.M.Message.seen in
    let read = c.loop-index.read.items in
    let more = c.in-Ok.message in
    subst (λ items.
    AllZip says (map view (take (c.loop-index.index + 1) c.args.values.now)) (map seen items))
    (sym c.in_ok-push-in-Ok.ensures.items)
    (subst (AllZip says (map view (take (c.loop-index.index + 1) c.args.values.now)))
    (sym (map-append seen read (more ∷ [])))
    (zip_more says view c.args.values.now c.loop-index.index _ _ (map seen read) (seen more)
    c.loop-index-test.true c.index-values-index.is c.loop-index.invariant c.in-Ok.ensures.ok))
