use Rattle.std.proofs.Common.{◌≡◌, ◌-◌, Bool, [], ◌∷◌, ◌++◌, codes, if◌then◌else◌, map, sym, ap, ◌∙◌, subst, append_assoc, append-nil, arith}
use Rattle.std.proofs.lemmas.Bool.{ne_eqb}
use Rattle.std.proofs.lemmas.List.{map-append, take_all}
use Rattle.json.specs.Token as token_of
use Rattle.json.specs.Token.{key, begin_object}
use Rattle.otel_base.specs.View.{tree, trees_view, entries_view}
use Rattle.otel_base.proofs.shared.Views.{tree-Map}
use Rattle.otel_otlp.specs.Common.{tree_value}
use Rattle.otel_otlp.specs.Tokens.{WritesValue, Appended, HasItems, HasValue}
use Rattle.otel_otlp.specs.Trees.{cut, cut_trees, cut_entries}
use Rattle.otel_base.specs.AnyValue as any
use Rattle.otel_otlp.proofs.TreeValues.{Entry, cut_value, entry_value, tree_values-view, entry_values-view}
use Rattle.otel_otlp.proofs.Tokens.{token, last, one_more_item, next_item, whole_pair, whole_values}
use Rattle.otel_otlp.proofs.trees.+tree.Goals as goal

pub entries_value-returns : goal.entries_value-returns
entries_value-returns t c =
    subst (λ (b : Bool). WritesValue c.end_values.result c.args.out.now c.end_values.new.out
    (tree_value (if b then any.text (codes "..") else any.map (cut_entries (c.args.levels - 1) (entries_view c.args.entries.now.entries)))))
    (sym (ne_eqb c.args.levels 0 c.if-levels-eq0.false))
    (last c.end_values.result c.end_values.ensures (whole_values c.in_ok-begin_values.ensures c.in_ok-entry_values.ensures))

pub entry_values-loop-key-preserved : goal.entry_values-loop-key-preserved
entry_values-loop-key-preserved t c =
    let l = c.loop-key in
    let done = l.invariant.0 in
    let n = c.args.levels in
    let e : Entry = (c.in-Some.key.now, c.in-Some.value.now) in
    let left = c.next.new.self in
    let begins : Appended l.out c.begin_pair.new.out (begin_object ∷ key (codes "key") ∷ token_of.string e.0 ∷ key (codes "value") ∷ []) =
    subst (λ k. Appended l.out c.begin_pair.new.out (begin_object ∷ key (codes "key") ∷ token_of.string k ∷ key (codes "value") ∷ [])) c.as_str.ensures c.in_ok-begin_pair.ensures in
    let written : HasValue l.out c.end_object.new.self (entry_value n e) =
    whole_pair begins c.in_ok-tree_value.ensures (token c.in_ok-end_object.was c.end_object.ensures) in (
      done ++ e ∷ [],
      l.invariant.1 ∙ ap (λ es. done ++ es) c.in-Some.ensures.steps ∙ sym (append_assoc done (e ∷ []) left),
      subst (HasItems c.args.out.now c.end_object.new.self) (sym (map-append (entry_value n) done (e ∷ []))) (one_more_item l.invariant.2 written),
    )

pub entry_values-returns : goal.entry_values-returns
entry_values-returns t c =
    let l = c.loop-key in
    let done = l.invariant.0 in
    let n = c.args.levels in
    let es = c.args.entries.now.entries in
    let all : es ≡ done = l.invariant.1 ∙ ap (λ rest. done ++ rest) c.in-None.ensures.steps.0 ∙ append-nil done in
    subst (HasItems c.args.out.now l.out) (ap (map (entry_value n)) (sym all) ∙ sym (entry_values-view n es)) l.invariant.2

pub tree_value-returns-in-Map : goal.tree_value-returns-in-Map
tree_value-returns-in-Map t c =
    let same : any.map (entries_view c.deref-in-Map.result.now.entries) ≡ tree c.args.value.now =
    ap (λ m. any.map (entries_view m.entries)) c.deref-in-Map.ensures
    ∙ sym (tree-Map c.in-Map.entries) ∙ ap tree (sym c.in-Map.is) in
    subst (λ (d : any.Tree). WritesValue c.entries_value.result c.args.out.now c.entries_value.new.out (tree_value (cut c.args.levels d))) same c.entries_value.ensures

pub tree_values-loop-item-preserved : goal.tree_values-loop-item-preserved
tree_values-loop-item-preserved t c =
    let l = c.loop-item in
    next_item (cut_value c.args.levels) c.deref-item-items.result.now l.item-index c.item-item.result
    (omega (arith, c.loop-item-test.true)) c.item-item.is l.invariant c.in_ok-tree_value.ensures

pub tree_values-returns : goal.tree_values-returns
tree_values-returns t c =
    let l = c.loop-item in
    let n = c.args.levels in
    let xs = c.deref-item-items.result.now in
    subst (HasItems c.args.out.now l.out)
    (ap (map (cut_value n)) (take_all l.item-index xs (omega (arith, c.loop-item-test.false)) ∙ c.deref-item-items.ensures.value)
    ∙ sym (tree_values-view n c.args.items.now.items))
    l.invariant

pub trees_value-returns : goal.trees_value-returns
trees_value-returns t c =
    subst (λ (b : Bool). WritesValue c.end_values.result c.args.out.now c.end_values.new.out
    (tree_value (if b then any.text (codes "..") else any.list (cut_trees (c.args.levels - 1) (trees_view c.args.items.now.items)))))
    (sym (ne_eqb c.args.levels 0 c.if-levels-eq0.false))
    (last c.end_values.result c.end_values.ensures (whole_values c.in_ok-begin_values.ensures c.in_ok-tree_values.ensures))
