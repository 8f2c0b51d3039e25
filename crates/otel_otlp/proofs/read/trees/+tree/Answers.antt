use Rattle.std.proofs.Common.{map, take, ◌+◌, ◌-◌, ◌∷◌, [], sym, subst, ◌∙◌, codes, List, ℕ}
use Rattle.std.specs.List.{AllZip}
use Rattle.std.proofs.lemmas.List.{map-append}
use Rattle.serde_json.specs.View.{view}
use Rattle.otel_base.specs.View.{tree, pairs_view}
use Rattle.otel_otlp.specs.ReadTrees.{IsTree, IsPair}
use Rattle.otel_base.specs.AnyValue.{Tree}
use Rattle.otel_otlp.proofs.ReadErrors.{passed, some_same}
use Rattle.otel_otlp.proofs.ReadLists.{zip_more, none_at}
use Rattle.otel_otlp.proofs.ReadTrees.{not_both, list_object, map_object, list_items, map_pairs}
use Rattle.otel_otlp.proofs.TreeValues.{Entry}
use Rattle.otel_otlp.proofs.read.trees.+tree.Goals as goal

pub read_list-returns-in_err-check_object-clause-err : goal.read_list-returns-in_err-check_object-clause-err
read_list-returns-in_err-check_object-clause-err t c =
    passed _ _ _ c.from_residual.ensures.1
    (λ no u h. c.in_err-check_object.ensures.err no (list_object c.args.levels _ u h))

pub read_list-returns-in_err-values-clause-err : goal.read_list-returns-in_err-values-clause-err
read_list-returns-in_err-values-clause-err t c =
    passed _ _ _ c.from_residual-in_err-values.ensures.1
    (λ no u h.
    let is = list_items c.args.levels _ u c.if-levels-eq0.false h in
    not_both _ is.2.values (c.in_err-values.ensures.err no) is.2.has_list)

pub read_list-returns-in-Err-clause-err : goal.read_list-returns-in-Err-clause-err
read_list-returns-in-Err-clause-err t c = λ no u h.
    let is = list_items c.args.levels _ u c.if-levels-eq0.false h in
    c.in-Err.ensures.err (c.within.ensures.refusal no) is.0
    (subst (λ vs. AllZip (IsTree (c.args.levels - 1)) vs is.0)
    (some_same _ _ (sym is.2.has_list ∙ c.in_ok-values.ensures.ok)) is.2.each)

pub read_map-returns-in_err-check_object-clause-err : goal.read_map-returns-in_err-check_object-clause-err
read_map-returns-in_err-check_object-clause-err t c =
    passed _ _ _ c.from_residual.ensures.1
    (λ no u h. c.in_err-check_object.ensures.err no (map_object c.args.levels _ u h))

pub read_map-returns-in_err-pairs-clause-err : goal.read_map-returns-in_err-pairs-clause-err
read_map-returns-in_err-pairs-clause-err t c =
    passed _ _ _ c.from_residual-in_err-pairs.ensures.1
    (λ no u h.
    let is = map_pairs c.args.levels _ u c.if-levels-eq0.false h in
    c.in_err-pairs.ensures.err no is.0 is.2)

pub read_trees-returns-in-Err-clause-err : goal.read_trees-returns-in-Err-clause-err
read_trees-returns-in-Err-clause-err t c = λ no.
    none_at (IsTree c.args.levels) view c.args.values.now c.loop-index.index _ _
    c.loop-index-test.true c.index-values-index.is (c.in-Err.ensures.err (c.in_item.ensures.refusal no))

pub read_trees-loop-index-preserved : goal.read_trees-loop-index-preserved
read_trees-loop-index-preserved t c =
    let says = IsTree c.args.levels in
    let values = c.args.values.now in
    let read = c.loop-index.read.items in
    let more = c.in-Ok.tree in
    subst (λ items. AllZip says (map view (take (c.loop-index.index + 1) values)) (map tree items))
    (sym c.in_ok-push-in-Ok.ensures.items)
    (subst (AllZip says (map view (take (c.loop-index.index + 1) values)))
    (sym (map-append tree read (more ∷ [])))
    (zip_more says view values c.loop-index.index _ _ (map tree read) (tree more)
    c.loop-index-test.true c.index-values-index.is c.loop-index.invariant c.in-Ok.ensures.ok))

pub read_pairs-returns-in-Err-clause-err : goal.read_pairs-returns-in-Err-clause-err
read_pairs-returns-in-Err-clause-err t c = λ no.
    none_at (IsPair c.args.levels) view c.args.values.now c.loop-index.index _ _
    c.loop-index-test.true c.index-values-index.is (c.in-Err.ensures.err (c.in_item.ensures.refusal no))

pub read_pairs-loop-index-preserved : goal.read_pairs-loop-index-preserved
read_pairs-loop-index-preserved t c =
    let says = IsPair c.args.levels in
    let values = c.args.values.now in
    let read = c.loop-index.read.items in
    let more = c.in-Ok.pair in
    let see : Entry → List ℕ × Tree = λ e. (e.0, tree e.1) in
    subst (λ items. AllZip says (map view (take (c.loop-index.index + 1) values)) (map see items))
    (sym c.in_ok-push-in-Ok.ensures.items)
    (subst (AllZip says (map view (take (c.loop-index.index + 1) values)))
    (sym (map-append see read (more ∷ [])))
    (zip_more says view values c.loop-index.index _ _ (map see read) (see more)
    c.loop-index-test.true c.index-values-index.is c.loop-index.invariant c.in-Ok.ensures.ok))
