use Rattle.std.proofs.Common.{◌≡◌, ◌-◌, Bool, List, ℕ, [], ◌∷◌, ◌++◌, codes, if◌then◌else◌, OnOk, append-nil, sym, ap, ◌∙◌, subst}
use Rattle.std.proofs.lemmas.Bool.{ne_eqb}
use Rattle.otel_base.specs.AnyValue as any
use Rattle.otel_base.specs.View.{tree, trees_view, entries_view}
use Rattle.otel_base.specs.declared.any_value.AnyValue.{AnyValue}
use Rattle.otel_base.proofs.shared.Views.{tree-Map}
use Rattle.otel_proto.specs.Output.{Output, put, put_head, Puts}
use Rattle.otel_proto.specs.Trees.{cut, cut_trees, cut_entries, tree_value, list_values, map_values}
use Rattle.otel_proto.specs.Wire.{Field}
use Rattle.otel_proto.specs.Written.{message, messages, bytes_unless_empty}
use Rattle.otel_proto.proofs.shared.Outputs.{put_none, put_more, put_both, put_message, one_less, all_done}
use Rattle.otel_proto.proofs.TreeFields.{Entry, value_fields, entry_fields, list_view, map_view}
use Rattle.otel_proto.proofs.trees.+tree.Goals as goal

pub tree_value-returns-in-Map : goal.tree_value-returns-in-Map
tree_value-returns-in-Map t c =
    let same : any.map (entries_view c.deref-in-Map.result.now.entries) ≡ tree c.args.value.now =
    ap (λ m. any.map (entries_view m.entries)) c.deref-in-Map.ensures
    ∙ sym (tree-Map c.in-Map.entries) ∙ ap tree (sym c.in-Map.is) in
    subst (λ (d : any.Tree). Puts c.map_value.result c.args.out.now c.map_value.new.out (tree_value (cut c.args.levels d))) same c.map_value.ensures

pub list_value-returns : goal.list_value-returns
list_value-returns t c =
    let inside = cut_trees (c.args.levels - 1) (trees_view c.args.items.now.items) in
    let fields = list_values inside in
    let end = c.count-end.result in
    let o = c.args.out.now in
    let written : Puts c.put_head.result o c.put_head.new.out (message 5 fields ∷ []) =
    subst (λ (p : Output). OnOk c.put_head.result (c.put_head.new.out ≡ p))
    (ap (put_head 5 end) c.in_ok-list_values.ensures ∙ put_message 5 end fields o c.count-end.ensures)
    c.put_head.ensures in
    subst (λ (b : Bool). Puts c.put_head.result o c.put_head.new.out (tree_value (if b then any.text (codes "..") else any.list inside)))
    (sym (ne_eqb c.args.levels 0 c.if-levels-eq0.false)) written

pub map_value-returns : goal.map_value-returns
map_value-returns t c =
    let inside = cut_entries (c.args.levels - 1) (entries_view c.args.entries.now.entries) in
    let fields = map_values inside in
    let end = c.count-end.result in
    let o = c.args.out.now in
    let written : Puts c.put_head.result o c.put_head.new.out (message 6 fields ∷ []) =
    subst (λ (p : Output). OnOk c.put_head.result (c.put_head.new.out ≡ p))
    (ap (put_head 6 end) c.in_ok-map_values.ensures ∙ put_message 6 end fields o c.count-end.ensures)
    c.put_head.ensures in
    subst (λ (b : Bool). Puts c.put_head.result o c.put_head.new.out (tree_value (if b then any.text (codes "..") else any.map inside)))
    (sym (ne_eqb c.args.levels 0 c.if-levels-eq0.false)) written

pub list_values-loop-item-init : goal.list_values-loop-item-init
list_values-loop-item-init t c = record {
  done = [];
  whole = append-nil c.into_iter-item-iterator.result.iter.rest.now ∙ rw (c.into_iter-item-iterator.ensures.into_iter_gives, c.rev-item-items.ensures.source) (c.iter.ensures.rest ∙ c.deref.ensures.value);
  put = sym (put_none c.args.out.now);
}

pub list_values-loop-item-preserved : goal.list_values-loop-item-preserved
list_values-loop-item-preserved t c =
    let so_far = c.loop-item.invariant in
    let x = c.in-Some.item.now in
    record {
      done = x ∷ so_far.done;
      whole = one_less _ _ _ so_far.done x c.in-Some.ensures.steps so_far.whole;
      put = put_more 1 c.count-end.result (value_fields c.args.levels) x so_far.done c.args.out.now c.loop-item.out c.tree_value.new.out c.put_head.new.out c.count-end.ensures so_far.put c.in_ok-tree_value.ensures c.in_ok-put_head.ensures;
    }

pub list_values-returns : goal.list_values-returns
list_values-returns t c =
    let so_far = c.loop-item.invariant in
    let n = c.args.levels in
    so_far.put
    ∙ ap (λ (xs : List AnyValue). put (messages 1 (value_fields n) xs) c.args.out.now) (all_done _ so_far.done _ c.in-None.ensures.steps.0 so_far.whole)
    ∙ ap (λ (fs : List Field). put fs c.args.out.now) (sym (list_view n c.args.items.now.items))

pub map_values-loop-key-init : goal.map_values-loop-key-init
map_values-loop-key-init t c = record {
  done = [];
  whole = append-nil c.into_iter-key-iterator.result.iter ∙ rw (c.into_iter-key-iterator.ensures.into_iter_gives, c.rev-key-items.ensures.source) c.iter.ensures.rest;
  put = sym (put_none c.args.out.now);
}

pub map_values-loop-key-preserved : goal.map_values-loop-key-preserved
map_values-loop-key-preserved t c =
    let so_far = c.loop-key.invariant in
    let e : Entry = (c.in-Some.key.now, c.in-Some.value.now) in
    record {
      done = e ∷ so_far.done;
      whole = one_less _ _ _ so_far.done e c.in-Some.ensures.steps so_far.whole;
      put = put_more 1 c.count-end.result (entry_fields c.args.levels) e so_far.done c.args.out.now c.loop-key.out c.put_pair.new.out c.put_head.new.out c.count-end.ensures so_far.put c.in_ok-put_pair.ensures c.in_ok-put_head.ensures;
    }

pub map_values-returns : goal.map_values-returns
map_values-returns t c =
    let so_far = c.loop-key.invariant in
    let n = c.args.levels in
    let all : so_far.done ≡ c.args.entries.now.entries = ap (λ (xs : List Entry). xs ++ so_far.done) (sym c.in-None.ensures.steps.0) ∙ so_far.whole in
    so_far.put
    ∙ ap (λ (es : List Entry). put (messages 1 (entry_fields n) es) c.args.out.now) all
    ∙ ap (λ (fs : List Field). put fs c.args.out.now) (sym (map_view n c.args.entries.now.entries))

pub put_pair-returns : goal.put_pair-returns
put_pair-returns t c =
    let key = c.args.key.now in
    let fields = tree_value (cut c.args.levels (tree c.args.value.now)) in
    let end = c.count-end.result in
    let o = c.args.out.now in
    let value : c.put_head.new.out ≡ put (message 2 fields ∷ []) o =
    c.in_ok-put_head.ensures ∙ ap (put_head 2 end) c.in_ok-tree_value.ensures ∙ put_message 2 end fields o c.count-end.ensures in
    let same : c.as_bytes.result.now ≡ key = c.as_bytes.ensures.value ∙ c.as_str.ensures in
    subst (λ (p : Output). OnOk c.put_bytes_unless_empty.result (c.put_bytes_unless_empty.new.out ≡ p))
    (ap (λ (s : List ℕ). put (bytes_unless_empty 1 s) c.put_head.new.out) same
    ∙ ap (put (bytes_unless_empty 1 key)) value
    ∙ put_both (bytes_unless_empty 1 key) (message 2 fields ∷ []) o)
    c.put_bytes_unless_empty.ensures
