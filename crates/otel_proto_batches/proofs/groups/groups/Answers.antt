use Rattle.std.proofs.Common.{◌≡◌, [], ◌∷◌, ◌++◌, map, sym, ap, ◌∙◌, append_assoc, append-nil}
use Rattle.std.proofs.lemmas.List.{map-append}
use Rattle.otel_proto_batches.specs.GroupView.{group_fields}
use Rattle.otel_proto_batches.specs.SortedView.{group_view, groups_view}
use Rattle.otel_proto_batches.specs.declared.groups.Group.{Group}
use Rattle.otel_proto_batches.proofs.GroupFields.{sorted_fields, group_same, groups_of}
use Rattle.otel_proto_batches.proofs.SortedEntries.{Entry}
use Rattle.otel_proto_batches.proofs.groups.groups.Goals as goal

pub loop-scope-preserved : goal.loop-scope-preserved
loop-scope-preserved g c =
    let fields_of = g.R.Grouped.form.fields_of in
    let l = c.loop-scope in
    let done = l.invariant.done in
    let e : Entry g.row.R.Denot = (c.in-Some.scope, c.in-Some.items) in
    let left = c.next.new.self in
    let new : Group g.row.R.Denot = record { scope = c.in-Some.scope; attributes = c.in_ok-attributes.attributes; items = c.in-Some.items } in
    record {
      done = done ++ e ∷ [];
      whole = l.invariant.whole ∙ ap (λ es. done ++ es) c.in-Some.ensures.steps ∙ sym (append_assoc done (e ∷ []) left);
      fields =
          ap (map (group_fields fields_of)) c.in_ok-push.ensures.items
          ∙ map-append (group_fields fields_of) l.groups.items (new ∷ [])
          ∙ ap (λ fs. fs ++ group_fields fields_of new ∷ []) l.invariant.fields
          ∙ ap (λ f. map (sorted_fields fields_of) (groups_view done) ++ f ∷ []) (group_same fields_of new c.in_ok-attributes.ensures)
          ∙ sym (map-append (sorted_fields fields_of) (groups_view done) (group_view e ∷ []))
          ∙ ap (map (sorted_fields fields_of)) (sym (map-append group_view done (e ∷ [])));
    }

pub returns : goal.returns
returns g c =
    let form = g.R.Grouped.form in
    let l = c.loop-scope in
    let done = l.invariant.done in
    let all : c.into_iter-scope-iterator.result ≡ done =
    l.invariant.whole ∙ ap (λ rest. done ++ rest) c.in-None.ensures.steps.0 ∙ append-nil done in
    l.invariant.fields
    ∙ ap (λ es. map (sorted_fields form.fields_of) (groups_view es)) (sym all ∙ c.into_iter-scope-iterator.ensures.into_iter_gives.0)
    ∙ ap (map (sorted_fields form.fields_of)) c.in_ok-items.ensures
    ∙ groups_of form c.args.batch.now
