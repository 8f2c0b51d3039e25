use Rattle.std.proofs.Common.{codes, if◌then◌else◌, Less, Greater, refl, sym, ap, ◌∙◌, subst}
use Rattle.otel_otlp.specs.Common.{instrumentation_scope}
use Rattle.otel_otlp.specs.Json.{list_member}
use Rattle.otel_otlp.specs.Tokens.{HasMembers}
use Rattle.otel_otlp.proofs.Places.{list_first, list_last}
use Rattle.otel_otlp.proofs.SortedEntries.{values_of}
use Rattle.otel_otlp.proofs.Tokens.{token, last_token, and_members}
use Rattle.otel_otlp.proofs.groups.scope_group.Goals as goal
use Rattle.otel_otlp.proofs.groups.scope_group.Goals.{then-names+in_ok-put_items+in_ok-put_scope, else-names+in_ok-put_scope-2+in_ok-put_items-2}

pub returns : goal.returns
returns g c =
    let form = g.R.Grouped.form in
    let names = c.list_names-names in
    let places = names.ensures.places in
    let scope = c.args.scope.now in
    let values = values_of form.value_of c.args.items.now in
    let begins = token c.in_ok-begin_object.was c.begin_object.ensures in
    let begun = c.begin_object.new.self in
    last_token c.end_object.result c.end_object.ensures (λ ends.
    elim c.if-names.branch [
      | then-names+in_ok-put_items+in_ok-put_scope w ↦
          let items = subst (λ n. HasMembers begun w.put_items.new.out (list_member n values)) names.ensures.items w.in_ok-put_items.ensures in
          list_first (codes "scope") form.items (codes "schemaUrl") (instrumentation_scope scope) values scope.schema_url
          (places.items_scope ∙ ap (λ b. if b then Less else Greater) w.if-names.true)
          (places.items_url ∙ ap (λ b. if b then Less else Greater) w.if-names.true) refl begins
          (subst (λ out. HasMembers begun out _) (sym w.out-is) (and_members items w.in_ok-put_scope.ensures)) ends
      | else-names+in_ok-put_scope-2+in_ok-put_items-2 w ↦
          let items = subst (λ n. HasMembers w.put_scope-else-names.new.out w.put_items-else-names.new.out (list_member n values)) names.ensures.items w.in_ok-put_items-2.ensures in
          list_last (codes "scope") form.items (codes "schemaUrl") (instrumentation_scope scope) values scope.schema_url
          (places.items_scope ∙ ap (λ b. if b then Less else Greater) w.if-names.false)
          (places.items_url ∙ ap (λ b. if b then Less else Greater) w.if-names.false) refl begins
          (subst (λ out. HasMembers begun out _) (sym w.out-is) (and_members w.in_ok-put_scope-2.ensures items)) ends
    ])
