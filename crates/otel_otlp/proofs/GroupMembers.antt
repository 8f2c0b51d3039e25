-- The values under the names of a scope, and of a group of items of a scope or a resource.
use Rattle.std.proofs.Common.{◌≡◌, ℕ, List, [], ◌∷◌, ◌++◌, Option, Some, None, Bool, true, false, if◌then◌else◌, refl, ap, ◌∙◌, codes, map, filter, slice_set}
use Rattle.std.proofs.lemmas.List.Elements.{All-head, All-tail, All-nil, All-cons, All-append, All-set}
use Rattle.std.proofs.lemmas.Slice.Eq.{bytes_eq-Decides}
use Rattle.std.specs.List.{All, list_any}
use Rattle.std.specs.Option.{option_map_or}
use Rattle.std.specs.Str.{bytes_eq}
use Rattle.otel_base.specs.InstrumentationScope.{Scope}
use Rattle.otel_base.specs.KeyValue.{Attribute}
use Rattle.otel_sdk_base.specs.Attributes as attributes
use Rattle.otel_sdk_base.specs.Resource.{Parts}
use Rattle.serde_json.specs.Data.{Data, string, array}
use Rattle.serde_json.specs.View.{items_of}
use Rattle.otel_otlp.specs.Common.{attributes_member, instrumentation_scope, key_value, resource, unique}
use Rattle.otel_otlp.specs.Groups.{BatchForm, is_of, new_scope, first_scopes, scope_value}
use Rattle.otel_otlp.specs.Json.{Member, list_member, text_member, text_if_given}
use Rattle.otel_otlp.specs.Lossless.{AreInRange, IsValueInRange}
use Rattle.otel_otlp.proofs.Found.{or_else, or_else-none, if_so, found, found-append, found-before, no_list}

pub no_given : (q n : List ℕ) (t : Option (List ℕ)) → bytes_eq q n ≡ false → found q (text_if_given n t) ≡ None
no_given q n None e = refl
no_given q n (Some t) e = ap (λ b. if_so b (string t)) e

pub same_name : (q : List ℕ) → bytes_eq q q ≡ true
same_name q = (bytes_eq-Decides q q).1 refl

-- ---- scopes
abbrev pub scope_members : Scope → List Member
scope_members s = text_member (codes "name") s.name ++ text_if_given (codes "version") s.version ++ attributes_member (unique s.attributes)

pub name_in : (s : Scope) → found (codes "name") (scope_members s) ≡ Some (string s.name)
name_in s =
    let q = codes "name" in
    found-before q (text_member q s.name ++ text_if_given (codes "version") s.version) (attributes_member (unique s.attributes))
    (no_list q (codes "attributes") (map key_value (unique s.attributes)) refl)
    ∙ found-before q (text_member q s.name) (text_if_given (codes "version") s.version) (no_given q (codes "version") s.version refl)

pub version_found : (s : Scope) → found (codes "version") (scope_members s) ≡ found (codes "version") (text_if_given (codes "version") s.version)
version_found s =
    let q = codes "version" in
    found-before q (text_member (codes "name") s.name ++ text_if_given q s.version) (attributes_member (unique s.attributes))
    (no_list q (codes "attributes") (map key_value (unique s.attributes)) refl)
    ∙ found-append q (text_member (codes "name") s.name) (text_if_given q s.version) ∙ or_else-none (found q (text_if_given q s.version))

pub scope_attributes_found : (s : Scope) → found (codes "attributes") (scope_members s) ≡ found (codes "attributes") (attributes_member (unique s.attributes))
scope_attributes_found s =
    let q = codes "attributes" in
    let front = text_member (codes "name") s.name ++ text_if_given (codes "version") s.version in
    found-append q front (attributes_member (unique s.attributes))
    ∙ ap (or_else (found q (attributes_member (unique s.attributes)))) (found-before q (text_member (codes "name") s.name) (text_if_given (codes "version") s.version) (no_given q (codes "version") s.version refl))
    ∙ or_else-none (found q (attributes_member (unique s.attributes)))

-- ---- scopes as programs have them
-- attributes in range stay so after an attribute is put
put_in_range : (xs : List Attribute) (a : Attribute) (at : Option ℕ) → AreInRange xs → IsValueInRange a.1 → AreInRange (option_map_or (λ i. slice_set xs i a) at (xs ++ a ∷ []))
put_in_range xs a None h g = All-append (λ b. IsValueInRange b.1) xs (a ∷ []) h (All-cons (λ b. IsValueInRange b.1) a [] g (All-nil (λ b. IsValueInRange b.1)))
put_in_range xs a (Some i) h g = All-set (λ b. IsValueInRange b.1) xs i a g h

put_all_in_range : (held xs : List Attribute) → AreInRange held → AreInRange xs → AreInRange (attributes.put_all held xs)
put_all_in_range held [] h g = h
put_all_in_range held (a ∷ xs) h g =
    put_all_in_range (attributes.put held a) xs (put_in_range held a (attributes.place a.0 held) h (All-head (λ b. IsValueInRange b.1) a xs g)) (All-tail (λ b. IsValueInRange b.1) a xs g)

pub unique_in_range : (xs : List Attribute) → AreInRange xs → AreInRange (unique xs)
unique_in_range xs h = put_all_in_range [] xs (All-nil (λ b. IsValueInRange b.1)) h

abbrev pub HasRange : Scope → Type 0
HasRange s = AreInRange s.attributes

if_in_range : (b : Bool) (s : Scope) → HasRange s → All HasRange (if b then [] else s ∷ [])
if_in_range true s h = All-nil HasRange
if_in_range false s h = All-cons HasRange s [] h (All-nil HasRange)

module _ {R : Type 0} (scope_of : R → Scope) (IsHeld : R → Type 0) (range : (x : R) → IsHeld x → HasRange (scope_of x)) where
  pub scopes_in_range : (before xs : List R) → All IsHeld xs → All HasRange (first_scopes scope_of before xs)
  scopes_in_range before [] h = All-nil HasRange
  scopes_in_range before (x ∷ xs) h =
      All-append HasRange (new_scope scope_of before x) (first_scopes scope_of (before ++ x ∷ []) xs)
      (if_in_range (list_any (is_of scope_of (scope_of x)) before) (scope_of x) (range x (All-head IsHeld x xs h)))
      (scopes_in_range (before ++ x ∷ []) xs (All-tail IsHeld x xs h))

-- ---- groups
-- the names of a group's value and list and of its schema URL are three
pub record AreApart (value list : List ℕ) : Type 0 where
  pub value_list : bytes_eq value list ≡ false
  pub value_url : bytes_eq value (codes "schemaUrl") ≡ false
  pub list_url : bytes_eq list (codes "schemaUrl") ≡ false
  pub url_value : bytes_eq (codes "schemaUrl") value ≡ false
  pub url_list : bytes_eq (codes "schemaUrl") list ≡ false

-- a value with this name, a list with that one, and a schema URL, which may be left out
abbrev pub parts : List ℕ → List ℕ → Data → List Data → Option (List ℕ) → List Member
parts n m d ds url = (n, d) ∷ list_member m ds ++ text_if_given (codes "schemaUrl") url

module _ (n m : List ℕ) (apart : AreApart n m) (d : Data) (ds : List Data) (url : Option (List ℕ)) where
  abbrev front : List Member
  front = (n, d) ∷ list_member m ds

  value_found : found n (parts n m d ds url) ≡ Some d
  value_found =
      found-before n front (text_if_given (codes "schemaUrl") url) (no_given n (codes "schemaUrl") url apart.value_url)
      ∙ ap (λ b. or_else (if_so b (array (items_of ds))) (if_so (bytes_eq n n) d)) apart.value_list
      ∙ ap (λ b. if_so b d) (same_name n)

  list_found : found m (parts n m d ds url) ≡ Some (array (items_of ds))
  list_found =
      found-before m front (text_if_given (codes "schemaUrl") url) (no_given m (codes "schemaUrl") url apart.list_url)
      ∙ ap (λ b. or_else (if_so b (array (items_of ds))) (if_so (bytes_eq m n) d)) (same_name m)

  url_found : found (codes "schemaUrl") (parts n m d ds url) ≡ found (codes "schemaUrl") (text_if_given (codes "schemaUrl") url)
  url_found =
      let q = codes "schemaUrl" in
      let given = found q (text_if_given q url) in
      found-append q front (text_if_given q url)
      ∙ ap (λ b. or_else given (or_else (if_so b (array (items_of ds))) (if_so (bytes_eq q n) d))) apart.url_list
      ∙ ap (λ b. or_else given (if_so b d)) apart.url_value ∙ or_else-none given

-- ---- the groups of a batch
-- the names are apart in the groups of a scope and in those of a resource
pub record IsNamed {R : Type 0} (form : BatchForm R) : Type 0 where
  pub items : AreApart (codes "scope") form.items
  pub scopes : AreApart (codes "resource") form.scopes

module _ {R : Type 0} (form : BatchForm R) where
  -- the values of the items of a scope
  abbrev pub values_of : List R → Scope → List Data
  values_of xs s = map form.value_of (filter (is_of form.scope_of s) xs)

  abbrev pub group_members : List R → Scope → List Member
  group_members xs s = parts (codes "scope") form.items (instrumentation_scope s) (values_of xs s) s.schema_url

  -- the values of the scopes with their items
  abbrev pub group_values : List R → List Data
  group_values xs = map (scope_value form xs) (first_scopes form.scope_of [] xs)

  abbrev pub batch_members : Parts → List R → List Member
  batch_members r xs = parts (codes "resource") form.scopes (resource r) (group_values xs) r.schema_url

  module _ (named : IsNamed form) where
    pub scope_found : (xs : List R) (s : Scope) → found (codes "scope") (group_members xs s) ≡ Some (instrumentation_scope s)
    scope_found xs s = value_found (codes "scope") form.items named.items (instrumentation_scope s) (values_of xs s) s.schema_url

    pub items_found : (xs : List R) (s : Scope) → found form.items (group_members xs s) ≡ Some (array (items_of (values_of xs s)))
    items_found xs s = list_found (codes "scope") form.items named.items (instrumentation_scope s) (values_of xs s) s.schema_url

    pub group_url_found : (xs : List R) (s : Scope) → found (codes "schemaUrl") (group_members xs s) ≡ found (codes "schemaUrl") (text_if_given (codes "schemaUrl") s.schema_url)
    group_url_found xs s = url_found (codes "scope") form.items named.items (instrumentation_scope s) (values_of xs s) s.schema_url

    pub resource_found : (r : Parts) (xs : List R) → found (codes "resource") (batch_members r xs) ≡ Some (resource r)
    resource_found r xs = value_found (codes "resource") form.scopes named.scopes (resource r) (group_values xs) r.schema_url

    pub groups_found : (r : Parts) (xs : List R) → found form.scopes (batch_members r xs) ≡ Some (array (items_of (group_values xs)))
    groups_found r xs = list_found (codes "resource") form.scopes named.scopes (resource r) (group_values xs) r.schema_url

    pub batch_url_found : (r : Parts) (xs : List R) → found (codes "schemaUrl") (batch_members r xs) ≡ found (codes "schemaUrl") (text_if_given (codes "schemaUrl") r.schema_url)
    batch_url_found r xs = url_found (codes "resource") form.scopes named.scopes (resource r) (group_values xs) r.schema_url
