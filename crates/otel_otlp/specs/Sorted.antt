-- Items sorted into groups, one for each scope.
use Rattle.std.specs.Prelude.{ℕ, List, [], ◌∷◌, ◌++◌, map, codes, if◌then◌else◌, filter}
use Rattle.otel_base.specs.InstrumentationScope as scope
use Rattle.otel_base.specs.InstrumentationScope.{Scope}
use Rattle.serde_json.specs.Data.{Data}
use Rattle.otel_otlp.specs.Common.{instrumentation_scope}
use Rattle.otel_otlp.specs.Groups.{is_of, first_scopes}
use Rattle.otel_otlp.specs.Json.{object_of, list_member, text_if_given}

-- a scope with the values of its items
abbrev pub Group : Type 0 → Type 0
Group V = Scope × List V

-- the groups, with one more value in the group of the scope; a new group goes last
abbrev pub put_in_group : {V : Type 0} → List (Group V) → Scope → V → List (Group V)
put_in_group [] of value = (of, value ∷ []) ∷ []
put_in_group (g ∷ more) of value =
    if scope.eq of g.0 then (g.0, g.1 ++ value ∷ []) ∷ more
    else g ∷ put_in_group more of value

module _ {R V : Type 0} (scope_of : R → Scope) (value_of : R → V) where
  -- the scope with the values of its items among these, in order
  abbrev pub group_of : List R → Scope → Group V
  group_of items of = (of, map value_of (filter (is_of scope_of of) items))

  -- the groups of the items, in the order in which their scopes first appear
  abbrev pub sort : List R → List (Group V)
  sort items = map (group_of items) (first_scopes scope_of [] items)

-- the values of a group, with its scope (the protocol's `ScopeSpans` and `ScopeLogs`)
abbrev pub scope_group : List ℕ → Group Data → Data
scope_group name g =
    object_of ((codes "scope", instrumentation_scope g.0)
    ∷ list_member name g.1
    ++ text_if_given (codes "schemaUrl") g.0.schema_url)
