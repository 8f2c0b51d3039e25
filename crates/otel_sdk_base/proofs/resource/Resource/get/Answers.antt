use Rattle.std.proofs.Common.{◌≡◌, Some, None, rules, tests, sym, ap, ◌∙◌, Bor}
use Rattle.std.specs.Prelude.{option_map, find}
use Rattle.std.proofs.lemmas.Iterator.{YieldsList-from_slice}
use Rattle.std.proofs.lemmas.Iterator.Search.{find_from_yields_List}
use Rattle.otel_base.specs.KeyValue.{Attribute, has_key}
use Rattle.otel_base.specs.View.{attribute_of}
use Rattle.otel_base.specs.declared.key_value.KeyValue.{KeyValue}
use Rattle.otel_sdk_base.specs.Resource.{get, Parts}
use Rattle.otel_sdk_base.proofs.Lists.{find_map}
use Rattle.otel_sdk_base.proofs.resource.Resource.get.Goals as goal

pub returns-in-Some : goal.returns-in-Some
returns-in-Some c =
    let items = c.self.inside.attributes.items in
    let found = find_from_yields_List (λ a. has_key c.args.key.now (attribute_of a)) _ _ _ c.find-found.ensures.ran (YieldsList-from_slice items (c.iter.ensures.rest ∙ c.deref.ensures.value)) (λ x b q k. search (rules, tests)) in
    let is : Some c.in-Some.attribute.now ≡ find (λ a. has_key c.args.key.now (attribute_of a)) items = ap (option_map (λ (b : Bor KeyValue). b.now)) (sym c.in-Some.is) ∙ found in
    sym (ap (λ (r : Parts). get c.args.key.now r) (sym c.self.view_is) ∙ ap (option_map (λ (a : Attribute). a.1)) (find_map (has_key c.args.key.now) attribute_of items ∙ ap (option_map attribute_of) (sym is)))

pub returns-in-None : goal.returns-in-None
returns-in-None c =
    let items = c.self.inside.attributes.items in
    let found = find_from_yields_List (λ a. has_key c.args.key.now (attribute_of a)) _ _ _ c.find-found.ensures.ran (YieldsList-from_slice items (c.iter.ensures.rest ∙ c.deref.ensures.value)) (λ x b q k. search (rules, tests)) in
    let is : None ≡ find (λ a. has_key c.args.key.now (attribute_of a)) items = ap (option_map (λ (b : Bor KeyValue). b.now)) (sym c.in-None.is) ∙ found in
    sym (ap (λ (r : Parts). get c.args.key.now r) (sym c.self.view_is) ∙ ap (option_map (λ (a : Attribute). a.1)) (find_map (has_key c.args.key.now) attribute_of items ∙ ap (option_map attribute_of) (sym is)))
