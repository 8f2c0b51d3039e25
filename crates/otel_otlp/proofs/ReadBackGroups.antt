-- What a batch of any form that the exporter writes is read as.
use Rattle.std.proofs.Common.{◌≡◌, refl, sym, ap, subst, ◌∙◌, ℕ, List, [], ◌∷◌, map, filter, codes}
use Rattle.std.proofs.Common.{Some, append-nil}
use Rattle.std.specs.List.{All, AllZip}
use Rattle.std.proofs.lemmas.List.Elements.{All-head, All-tail, All-nil, All-cons, All-filter}
use Rattle.otel_base.specs.InstrumentationScope.{Scope}
use Rattle.otel_sdk_base.specs.Resource.{Parts}
use Rattle.serde_json.specs.Data.{Data, array}
use Rattle.serde_json.specs.Read as json
use Rattle.serde_json.specs.View.{items_of}
use Rattle.otel_otlp.specs.Common.{instrumentation_scope, attributes_member, resource, unique}
use Rattle.otel_otlp.specs.Groups.{BatchForm, is_of, first_scopes, scope_value, resource_value, batch_value}
use Rattle.otel_otlp.specs.Json.{list_member}
use Rattle.otel_otlp.specs.Lossless.{told, AreInRange}
use Rattle.otel_otlp.specs.ReadBack as back
use Rattle.otel_otlp.specs.ReadBack.{read_scope, GroupsReadBack, ItemsReadBack}
use Rattle.otel_otlp.specs.ReadGroups.{ResourceItems, IsScope, HasScope, nameless, IsResource, IsScopeGroup, IsResourceGroup, joined}
use Rattle.otel_otlp.specs.ReadMembers.{member_of, AreIn}
use Rattle.otel_otlp.proofs.Found.{if_so}
use Rattle.otel_otlp.proofs.GroupMembers as groups
use Rattle.otel_otlp.proofs.GroupMembers.{HasRange, IsNamed, scope_members, name_in, version_found, scope_attributes_found, unique_in_range, scopes_in_range, same_name}
use Rattle.otel_otlp.proofs.ReadBack.{Only, member_in, text_is, text_given, list_is, list_says}
use Rattle.otel_otlp.proofs.ReadBackValues.{only_there, only_attributes}
use Rattle.otel_otlp.proofs.ReadErrors.{some_same}

-- ---- scopes
only_scope : (s : Scope) → AreInRange s.attributes
    → Only (IsScope s.schema_url (instrumentation_scope s)) (read_scope s)
only_scope s h =
    let ms = scope_members s in
    let name = text_is (codes "name") ms s.name (name_in s) in
    let version = text_given (codes "version") ms s.version (version_found s) refl in
    let given = only_attributes ms (unique s.attributes) (unique_in_range s.attributes h)
    (scope_attributes_found s) in (
      record {
        is_object = refl;
        name = name;
        version = version;
        attributes = given.0;
        schema_url = refl;
      },
      λ y k.
          let n : y.name ≡ s.name = some_same _ _ (sym k.name ∙ name) in
          let v : y.version ≡ s.version = some_same _ _ (sym k.version ∙ version) in
          let u = k.schema_url in
          let a = given.1 y.attributes k.attributes in
          λ i. record { name = n i; version = v i; schema_url = u i; attributes = a i },
    )

-- ---- resources
only_resource : (r : Parts) → AreInRange r.attributes → Only (IsResource (resource r)) (told r.attributes)
only_resource r h =
    let given = only_attributes (attributes_member r.attributes) r.attributes h refl in
    (record { is_object = refl; attributes = given.0 }, λ xs k. given.1 xs k.attributes)

-- ---- groups
-- an item in a group of a scope is read as `read` says, and as nothing else of that scope
module _ {R : Type 0} (form : BatchForm R) (read : Scope → R → R) (Says : Data → R → Type 0) (IsHeld : R → Type 0)
    (named : IsNamed form)
    (range : (x : R) → IsHeld x → HasRange (form.scope_of x))
    (of : (scope : Scope) (x : R) → form.scope_of (read scope x) ≡ read_scope scope)
    (says : (x : R) → IsHeld x → (scope : Scope) → Says (form.value_of x) (read scope x))
    (only : (x : R) → IsHeld x → (scope : Scope) (y : R) → Says (form.value_of x) y → form.scope_of y ≡ read_scope scope
    → y ≡ read scope x) where
  each_says : (scope : Scope) (xs : List R) → All IsHeld xs
      → AllZip Says (map form.value_of xs) (map (read scope) xs)
  each_says scope [] h = tt
  each_says scope (x ∷ xs) h =
      (says x (All-head IsHeld x xs h) scope, each_says scope xs (All-tail IsHeld x xs h))

  abbrev Of : Scope → R → Type 0
  Of scope y = form.scope_of y ≡ scope

  each_of : (scope : Scope) (xs : List R) → All (Of (read_scope scope)) (map (read scope) xs)
  each_of scope [] = All-nil (Of (read_scope scope))
  each_of scope (x ∷ xs) =
      All-cons (Of (read_scope scope)) (read scope x) (map (read scope) xs) (of scope x) (each_of scope xs)

  each_only : (scope : Scope) (xs : List R) → All IsHeld xs → (ys : List R)
      → AllZip Says (map form.value_of xs) ys → All (Of (read_scope scope)) ys → ys ≡ map (read scope) xs
  each_only scope [] h [] k in_scope = refl
  each_only scope [] h (y ∷ ys) k in_scope = absurd k
  each_only scope (x ∷ xs) h [] k in_scope = absurd k
  each_only scope (x ∷ xs) h (y ∷ ys) k in_scope =
      ap (λ z. z ∷ ys) (only x (All-head IsHeld x xs h) scope y k.0 (All-head (Of (read_scope scope)) y ys in_scope))
      ∙ ap (λ zs. read scope x ∷ zs)
      (each_only scope xs (All-tail IsHeld x xs h) ys k.1 (All-tail (Of (read_scope scope)) y ys in_scope))

  only_group : (xs : List R) → All IsHeld xs → (s : Scope) → HasRange s
      → Only (IsScopeGroup form Says (scope_value form xs s)) (back.read_group form read xs s)
  only_group xs held s in_range =
      let d = scope_value form xs s in
      let ms = groups.group_members form xs s in
      let fs = filter (is_of form.scope_of s) xs in
      let all = All-filter (is_of form.scope_of s) IsHeld xs held in
      let url = text_given (codes "schemaUrl") ms s.schema_url (groups.group_url_found form named xs s) refl in
      let there = member_in (codes "scope") ms (Some (instrumentation_scope s)) (groups.scope_found form named xs s) in
      let scope = only_there (member_of (codes "scope") d) (instrumentation_scope s)
      (λ y. y ≡ nameless s.schema_url) (IsScope s.schema_url) (read_scope s) there (only_scope s in_range) in
      let list = list_is form.items ms (map form.value_of fs) (groups.items_found form named xs s) in (
        record {
          is_object = refl;
          url = s.schema_url;
          has_url = url;
          scope = read_scope s;
          has_scope = scope.0;
          items = record { values = map form.value_of fs; has_list = list; each = each_says s fs all };
          are_of_scope = each_of s fs;
        },
        λ ys k.
            let same = some_same _ _ (sym k.has_url ∙ url) in
            let is = scope.1 k.scope (subst (λ u. HasScope u d k.scope) same k.has_scope) in
            let values = some_same _ _ (sym k.items.has_list ∙ list) in
            each_only s fs all ys (subst (λ vs. AllZip Says vs ys) values k.items.each)
            (subst (λ sc. All (Of sc) ys) is k.are_of_scope),
      )

  only_batch : (r : Parts) (xs : List R) → AreInRange r.attributes → All IsHeld xs
      → Only (IsResourceGroup form Says (resource_value form r xs)) (back.read_batch form read r xs)
  only_batch r xs in_r held =
      let d = resource_value form r xs in
      let ms = groups.batch_members form r xs in
      let scopes = first_scopes form.scope_of [] xs in
      let url = text_given (codes "schemaUrl") ms r.schema_url (groups.batch_url_found form named r xs) refl in
      let there = member_in (codes "resource") ms (Some (resource r)) (groups.resource_found form named r xs) in
      let given = only_there (member_of (codes "resource") d) (resource r) (λ ys. ys ≡ []) IsResource
      (told r.attributes) there (only_resource r in_r) in
      let list = list_is form.scopes ms (groups.group_values form xs) (groups.groups_found form named r xs) in
      let all = list_says (IsScopeGroup form Says) (scope_value form xs) (back.read_group form read xs) HasRange
      (only_group xs held) form.scopes d scopes (scopes_in_range form.scope_of IsHeld range [] xs held) list in (
        record {
          is_object = refl;
          resource = record {
            given = told r.attributes;
            has_given = given.0;
            attributes = refl;
            schema_url = url;
          };
          items = record { groups = map (back.read_group form read xs) scopes; are = all.0; all = refl };
        },
        λ y k.
            let same = given.1 k.resource.given k.resource.has_given in
            let a : y.resource.attributes ≡ unique (told r.attributes) = k.resource.attributes ∙ ap unique same in
            let u : y.resource.schema_url ≡ r.schema_url = some_same _ _ (sym k.resource.schema_url ∙ url) in
            let ys : y.items ≡ back.read_items form read xs = k.items.all ∙ ap joined (all.1 k.items.groups k.items.are) in
            λ i. record { resource = record { attributes = a i; schema_url = u i }; items = ys i },
      )

  -- ---- lines
  only_batches : (r : Parts) (xs : List R) → AreInRange r.attributes → All IsHeld xs
      → Only (AreIn (IsResourceGroup form Says) form.resources (batch_value form r xs)) (back.read_batch form read r xs ∷ [])
  only_batches r xs in_r held =
      let q = form.resources in
      let ds = resource_value form r xs ∷ [] in
      let list = list_is q (list_member q ds) ds (ap (λ b. if_so b (array (items_of ds))) (same_name q)) in
      list_says (IsResourceGroup form Says) (λ x. resource_value form x xs) (λ x. back.read_batch form read x xs)
      (λ x. AreInRange x.attributes) (λ x h. only_batch x xs h held) q (batch_value form r xs) (r ∷ [])
      (All-cons (λ (x : Parts). AreInRange x.attributes) r [] in_r (All-nil (λ (x : Parts). AreInRange x.attributes)))
      list

  module _ (IsLine : List ℕ → Data → Type 0)
      (reads : (line : List ℕ) (r : Parts) (xs : List R) → IsLine line (batch_value form r xs)
      → json.read line ≡ Some (batch_value form r xs)) where
    pub groups_read_back : GroupsReadBack form read Says IsHeld IsLine
    groups_read_back line r xs in_r held text gs =
        let d = batch_value form r xs in
        let is = reads line r xs text in
        let all = only_batches r xs in_r held in (
          λ k.
              let same = some_same _ _ (sym k.is_json ∙ is) in
              all.1 gs (subst (λ v. AreIn (IsResourceGroup form Says) form.resources v gs) same k.are),
          λ e. record {
            data_of = d;
            is_json = is;
            is_object = refl;
            are = subst (AreIn (IsResourceGroup form Says) form.resources d) (sym e) all.0;
          },
        )

    pub items_read_back : ItemsReadBack form read Says IsHeld IsLine
    items_read_back line r xs in_r held text ys =
        let g = back.read_batch form read r xs in
        let both = groups_read_back line r xs in_r held text in (
          λ k.
              k.all ∙ ap (λ gs. joined (map (λ (g : ResourceItems R). g.items) gs)) ((both k.resources).0 k.are)
              ∙ append-nil g.items,
          λ e. record {
            resources = g ∷ [];
            are = (both (g ∷ [])).1 refl;
            all = e ∙ sym (append-nil g.items);
          },
        )
