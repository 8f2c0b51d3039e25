use Rattle.std.proofs.Common.{◌≡◌, map, ◌∙◌, rules}
use Rattle.std.specs.List.{AllZip, each_same}
use Rattle.otel_base.specs.View.{attribute_of}
use Rattle.otel_base.specs.InstrumentationScope.{Scope}
use Rattle.otel_base.proofs.shared.MappedLists.{cloned_pairs}
use Rattle.otel_base.proofs.scope.InstrumentationScopeClone.clone.Goals as goal

pub invariant_of-result : goal.invariant_of-result
invariant_of-result c =
    let zip : AllZip (λ x y. attribute_of y
    ≡ attribute_of x) c.self.inside.attributes.items c.in_ok-clone-4.field-0.items =
    c.in_ok-clone-4.ensures.cases.0 in
    let pairs : map attribute_of c.in_ok-clone-4.field-0.items
    ≡ map attribute_of c.self.inside.attributes.items = cloned_pairs _ _ zip in
    let places : c.in_ok-clone-5.field-0.items ≡ c.self.inside.positions.items =
    each_same _ _ c.in_ok-clone-5.ensures.cases.0 in
    rw (pairs, places) c.self.invariant

pub returns : goal.returns
returns c =
    let zip : AllZip (λ x y. attribute_of y
    ≡ attribute_of x) c.self.inside.attributes.items c.in_ok-clone-4.field-0.items =
    c.in_ok-clone-4.ensures.cases.0 in
    let pairs : map attribute_of c.in_ok-clone-4.field-0.items
    ≡ map attribute_of c.self.inside.attributes.items = cloned_pairs _ _ zip in
    let name : c.in_ok-clone.field-0 ≡ c.self.inside.name = c.in_ok-clone.ensures.cases in
    let version : c.in_ok-clone-2.field-0 ≡ c.self.inside.version = search rules in
    let url : c.in_ok-clone-3.field-0 ≡ c.self.inside.schema_url = search rules in
    record {
      cases =
          (λ i. let s : Scope =
          record {
            name = name i;
            version = version i;
            schema_url = url i;
            attributes =
                pairs i;
          } in s) ∙ c.self.view_is;
    }
