use Rattle.std.proofs.Common.{◌≡◌, [], ◌∷◌, ◌++◌, map, sym, ap, ◌∙◌, subst, append_assoc, append-nil}
use Rattle.std.proofs.lemmas.List.{map-append}
use Rattle.otel_otlp.specs.Sorted.{scope_group}
use Rattle.otel_otlp.specs.SortedView.{group_view, groups_view}
use Rattle.otel_otlp.specs.Tokens.{HasItems, HasValue}
use Rattle.otel_otlp.proofs.SortedEntries.{Entry, values_of}
use Rattle.otel_otlp.proofs.Sorting.{groups_of}
use Rattle.otel_otlp.proofs.Tokens.{one_more_item}
use Rattle.otel_otlp.proofs.groups.groups.Goals as goal

pub loop-scope-preserved : goal.loop-scope-preserved
loop-scope-preserved g c =
    let form = g.R.Grouped.form in
    let l = c.loop-scope in
    let done = l.invariant.0 in
    let e : Entry form.value_of = (c.in-Some.scope, c.in-Some.items) in
    let left = c.next.new.self in
    let old = c.args.out.now in
    let new = c.scope_group.new.out in
    let write = scope_group form.items in (
      done ++ e ∷ [],
      l.invariant.1 ∙ ap (λ es. done ++ es) c.in-Some.ensures.steps ∙ sym (append_assoc done (e ∷ []) left),
      subst (HasItems old new)
          (sym (map-append write (groups_view form.value_of done) (group_view form.value_of e ∷ [])) ∙ ap (map write) (sym (map-append (group_view form.value_of) done (e ∷ []))))
          (one_more_item l.invariant.2
          (subst (λ items. HasValue l.out new (write (e.0, values_of form.value_of items))) c.as_slice.ensures.value c.in_ok-scope_group.ensures)),
    )

pub returns : goal.returns
returns g c =
    let form = g.R.Grouped.form in
    let l = c.loop-scope in
    let done = l.invariant.0 in
    let write = scope_group form.items in
    let all : c.into_iter-scope-iterator.result ≡ done =
    l.invariant.1 ∙ ap (λ rest. done ++ rest) c.in-None.ensures.steps.0 ∙ append-nil done in
    subst (HasItems c.args.out.now l.out)
    (ap (λ es. map write (groups_view form.value_of es)) (sym all ∙ c.into_iter-scope-iterator.ensures.into_iter_gives.0)
    ∙ ap (map write) c.in_ok-items.ensures
    ∙ groups_of form.scope_of form.value_of form.items c.args.batch.now)
    l.invariant.2
