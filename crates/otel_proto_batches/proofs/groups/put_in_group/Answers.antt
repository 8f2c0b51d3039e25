use Rattle.std.proofs.Common.{◌++◌, ◌∷◌, [], ◌∙◌, sym, ap}
use Rattle.std.proofs.lemmas.List.{map-append}
use Rattle.indexmap.specs.IndexMap.{insert_entry}
use Rattle.otel_base.specs.InstrumentationScope.{eq}
use Rattle.otel_proto_batches.specs.SortedView.{groups_view}
use Rattle.otel_proto_batches.proofs.SortedEntries.{values_of, set_value-put_in_group_group, insert_entry-put_in_group_group}
use Rattle.otel_proto_batches.proofs.groups.put_in_group.Goals as goal

pub returns-in-Some : goal.returns-in-Some
returns-in-Some g c =
    let old = c.in-Some.items.now in
    let new = c.push.new.self in
    let item = c.args.item in
    let before = c.args.groups.now.entries in
    ap groups_view (c.get_mut.follows.holds new).0
    ∙ set_value-put_in_group_group g.row.R.Denot before c.args.scope.now old new item.now (sym c.in-Some.ensures.value)
    (ap (values_of g.row.R.Denot) c.in_ok-push.ensures.items ∙ map-append (λ r. r.now) old.items (item ∷ []))

pub returns : goal.returns
returns g c =
    let new = c.push-2.new.self in
    let item = c.args.item in
    let before = c.args.groups.now.entries in
    let scope = c.args.scope.now in
    ap groups_view
    (c.in_ok-insert.ensures.entries ∙ ap (λ k. insert_entry eq c.get_mut.follows.lender-at-none.entries k new) c.in_ok-clone.ensures.cases
    ∙ ap (λ m. insert_entry eq m.entries scope new) c.get_mut.follows.holds-at-none)
    ∙ insert_entry-put_in_group_group g.row.R.Denot before scope new item.now (sym c.in_default.ensures.value)
    (ap (values_of g.row.R.Denot) (c.in_ok-push-2.ensures.items ∙ ap (λ vs. vs ++ item ∷ []) c.new-items.ensures.items))
