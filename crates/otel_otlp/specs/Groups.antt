-- Items grouped by scope, and scopes under a resource, for batches of spans and of log records
-- [opentelemetry/proto/trace/v1/trace.proto, logs/v1/logs.proto].
use Rattle.std.specs.Prelude.{◌≡◌, List, [], ◌∷◌, ◌++◌, map, ℕ, Bool, codes, if◌then◌else◌, filter}
use Rattle.std.specs.Cmp.Lexicographic.{slice_cmp}
use Rattle.std.specs.List.{list_any}
use Rattle.std.specs.Ordering.{nat_cmp}
use Rattle.std.specs.declared.cmp.Ordering.TheVariants.{Less, Greater}
use Rattle.otel_base.specs.InstrumentationScope as scope
use Rattle.otel_base.specs.InstrumentationScope.{Scope}
use Rattle.otel_sdk_base.specs.Resource.{Parts}
use Rattle.serde_json.specs.Data.{Data}
use Rattle.otel_otlp.specs.Common.{instrumentation_scope, resource}
use Rattle.otel_otlp.specs.Json.{object_of, list_member, text_if_given}

-- ---- scopes; `scope_of` gives the scope of a record
module _ {R : Type 0} (scope_of : R → Scope) where
  -- whether the record belongs to the scope
  abbrev pub is_of : Scope → R → Bool
  is_of wanted r = scope.eq (scope_of r) wanted

  -- the scope of a record, unless an earlier record belongs to that scope
  abbrev pub new_scope : List R → R → List Scope
  new_scope before r =
      if list_any (is_of (scope_of r)) before then [] else scope_of r ∷ []

  -- the scopes of these records, in the order in which they first appear; `before` are the records
  -- before them
  abbrev pub first_scopes : List R → List R → List Scope
  first_scopes before [] = []
  first_scopes before (r ∷ more) = new_scope before r ++ first_scopes (before ++ r ∷ []) more

  -- the records of the scope among these, in order, with the scope (the protocol's `ScopeSpans` and
  -- `ScopeLogs`); `value_of` gives the value of a record
  abbrev pub scope_group : (R → Data) → List ℕ → List R → Scope → Data
  scope_group value_of name records of =
      object_of ((codes "scope", instrumentation_scope of)
      ∷ list_member name (map value_of (filter (is_of of) records))
      ++ text_if_given (codes "schemaUrl") of.schema_url)

-- ---- resources
-- the groups of one resource (the protocol's `ResourceSpans` and `ResourceLogs`)
abbrev pub resource_group : Parts → List ℕ → List Data → Data
resource_group of name groups =
    object_of ((codes "resource", resource of)
    ∷ list_member name groups
    ++ text_if_given (codes "schemaUrl") of.schema_url)

-- ---- batches
-- the form of a batch of items: the scope and the value of an item, and the names of the lists of
-- resources, of a resource's scopes and of a scope's items
pub record BatchForm (R : Type 0) : Type 0 where
  pub scope_of : R → Scope
  pub value_of : R → Data
  pub resources : List ℕ
  pub scopes : List ℕ
  pub items : List ℕ

module _ {R : Type 0} (form : BatchForm R) where
  -- the items of the scope among these, in order, with the scope
  abbrev pub scope_value : List R → Scope → Data
  scope_value = scope_group form.scope_of form.value_of form.items

  -- the items of one resource, the scopes in the order in which they first appear
  abbrev pub resource_value : Parts → List R → Data
  resource_value of items =
      resource_group of form.scopes (map (scope_value items) (first_scopes form.scope_of [] items))

  -- a batch of items of one resource, as one object (the protocol's `TracesData` and `LogsData`)
  abbrev pub batch_value : Parts → List R → Data
  batch_value of items = object_of (list_member form.resources (resource_value of items ∷ []))

  -- where the names of a group's lists are in the order of names: that of a scope's items comes
  -- before the other names of its group or after them, and that of the scopes comes last
  pub record HasPlaces (items_come_first : Bool) : Type 0 where
    pub items_url : slice_cmp nat_cmp form.items (codes "schemaUrl")
        ≡ (if items_come_first then Less else Greater)
    pub items_scope : slice_cmp nat_cmp form.items (codes "scope")
        ≡ (if items_come_first then Less else Greater)
    pub scopes_url : slice_cmp nat_cmp form.scopes (codes "schemaUrl") ≡ Greater
    pub scopes_resource : slice_cmp nat_cmp form.scopes (codes "resource") ≡ Greater
