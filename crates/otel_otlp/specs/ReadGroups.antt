-- Lines, resources and scopes with their items, which are spans or log records, read from JSON
-- whoever wrote it [OpenTelemetry protocol, "JSON Protobuf Encoding"].
use Rattle.std.specs.Prelude.{◌≡◌, ℕ, List, [], map, codes, Option, Some, None, MatchOption}
use Rattle.std.specs.List.{All, flat_map}
use Rattle.otel_base.specs.InstrumentationScope.{Scope}
use Rattle.otel_base.specs.KeyValue.{Attribute}
use Rattle.otel_sdk_base.specs.Resource.{Parts}
use Rattle.otel_otlp.specs.Common.{unique}
use Rattle.otel_otlp.specs.Groups.{BatchForm}
use Rattle.otel_otlp.specs.ReadMembers.{IsObject, member_of, text_in, given_text_in, AreIn}
use Rattle.otel_otlp.specs.ReadValues.{HasAttributes}
use Rattle.serde_json.specs.Data.{Data}
use Rattle.serde_json.specs.Read.{read}

-- ---- InstrumentationScope
-- the schema URL is the group's
pub record IsScope (url : Option (List ℕ)) (d : Data) (s : Scope) : Type 0 where
  pub is_object : IsObject d
  pub name : text_in (codes "name") d ≡ Some s.name
  pub version : given_text_in (codes "version") d ≡ Some s.version
  pub attributes : HasAttributes d s.attributes
  pub schema_url : s.schema_url ≡ url

-- an absent scope has an empty name
abbrev pub nameless : Option (List ℕ) → Scope
nameless url = record { name = []; version = None; schema_url = url; attributes = [] }

abbrev pub HasScope : Option (List ℕ) → Data → Scope → Type 0
HasScope url d s =
    MatchOption (member_of (codes "scope") d) (s ≡ nameless url) (λ given. IsScope url given s)

-- ---- Resource
pub record IsResource (d : Data) (xs : List Attribute) : Type 0 where
  pub is_object : IsObject d
  pub attributes : HasAttributes d xs

-- an absent resource has no attributes
abbrev pub HasResourceAttributes : Data → List Attribute → Type 0
HasResourceAttributes d xs =
    MatchOption (member_of (codes "resource") d) (xs ≡ []) (λ given. IsResource given xs)

-- the resource of a group: each key once, with its last value at its first place; the schema URL is
-- the group's
pub record HasResource (d : Data) (r : Parts) : Type 0 where
  pub given : List Attribute
  pub has_given : HasResourceAttributes d given
  pub attributes : r.attributes ≡ unique given
  pub schema_url : given_text_in (codes "schemaUrl") d ≡ Some r.schema_url

-- ---- lines
-- the line is a JSON object whose list with this name says these, in order (the protocol's
-- `TracesData` and `LogsData`)
pub record AreInLine {A : Type 0} (Says : Data → A → Type 0) (name line : List ℕ) (xs : List A)
    : Type 0 where
  pub data_of : Data
  pub is_json : read line ≡ Some data_of
  pub is_object : IsObject data_of
  pub are : AreIn Says name data_of xs

-- ---- groups
-- a resource with its items
pub record ResourceItems (R : Type 0) : Type 0 where
  pub resource : Parts
  pub items : List R

-- the items of all groups, in order
abbrev pub joined : {R : Type 0} → List (List R) → List R
joined groups = flat_map (λ items. items) groups

module _ {R : Type 0} (form : BatchForm R) (Says : Data → R → Type 0) where
  -- the items of one scope (the protocol's `ScopeSpans` and `ScopeLogs`)
  pub record IsScopeGroup (d : Data) (xs : List R) : Type 0 where
    pub is_object : IsObject d
    pub url : Option (List ℕ)
    pub has_url : given_text_in (codes "schemaUrl") d ≡ Some url
    pub scope : Scope
    pub has_scope : HasScope url d scope
    pub items : AreIn Says form.items d xs
    pub are_of_scope : All (λ x. form.scope_of x ≡ scope) xs

  -- the items of all scopes of a resource, in order
  pub record HasItems (d : Data) (xs : List R) : Type 0 where
    pub groups : List (List R)
    pub are : AreIn IsScopeGroup form.scopes d groups
    pub all : xs ≡ joined groups

  -- the items of one resource (the protocol's `ResourceSpans` and `ResourceLogs`)
  pub record IsResourceGroup (d : Data) (g : ResourceItems R) : Type 0 where
    pub is_object : IsObject d
    pub resource : HasResource d g.resource
    pub items : HasItems d g.items

  -- the line is the JSON of these resources with their items
  abbrev pub AreGroupsOf : List ℕ → List (ResourceItems R) → Type 0
  AreGroupsOf = AreInLine IsResourceGroup form.resources

  -- the line is the JSON of these items
  pub record AreItemsOf (line : List ℕ) (xs : List R) : Type 0 where
    pub resources : List (ResourceItems R)
    pub are : AreGroupsOf line resources
    pub all : xs ≡ joined (map (λ g. g.items) resources)
