-- Items grouped by scope, and scopes under a resource, for batches of spans and of log records
-- [opentelemetry/proto/trace/v1/trace.proto, logs/v1/logs.proto].
use Rattle.std.specs.Prelude.{List, [], ◌∷◌, ◌++◌, Bool, if◌then◌else◌, filter}
use Rattle.std.specs.List.{list_any}
use Rattle.otel_base.specs.InstrumentationScope as scope
use Rattle.otel_base.specs.InstrumentationScope.{Scope}
use Rattle.otel_sdk_base.specs.Resource.{Parts}
use Rattle.otel_proto.specs.Wire.{Field}
use Rattle.otel_proto.specs.Written.{message, messages}
use Rattle.otel_proto_batches.specs.Common as common
use Rattle.otel_proto_batches.specs.Common.{text_if_given}

-- ---- scopes; `scope_of` gives the scope of an item
module _ {R : Type 0} (scope_of : R → Scope) where
  -- whether the item belongs to the scope
  abbrev pub is_of : Scope → R → Bool
  is_of wanted r = scope.eq (scope_of r) wanted

  -- the items of the scope among these, in order
  abbrev pub items_of : List R → Scope → List R
  items_of items of = filter (is_of of) items

  -- the scope of an item, unless an earlier item belongs to that scope
  abbrev pub new_scope : List R → R → List Scope
  new_scope before r =
      if list_any (is_of (scope_of r)) before then [] else scope_of r ∷ []

  -- the scopes of these items, in the order in which they first appear; `before` are the items
  -- before them
  abbrev pub first_scopes : List R → List R → List Scope
  first_scopes before [] = []
  first_scopes before (r ∷ more) = new_scope before r ++ first_scopes (before ++ r ∷ []) more

-- ---- resources
-- the groups of one resource (the protocol's `ResourceSpans` and `ResourceLogs`), in a batch (the
-- protocol's `ExportTraceServiceRequest` and `ExportLogsServiceRequest`)
abbrev pub request_of : Parts → List Field → List Field
request_of of groups =
    message 1 (message 1 (common.resource of) ∷ (groups ++ text_if_given 3 of.schema_url)) ∷ []

-- ---- batches
-- the form of a batch of items: the scope of an item, and the fields of its message
pub record Form (R : Type 0) : Type 0 where
  pub scope_of : R → Scope
  pub fields_of : R → List Field

module _ {R : Type 0} (form : Form R) where
  -- the items of the scope among these, in order, with the scope (the protocol's `ScopeSpans` and
  -- `ScopeLogs`)
  abbrev pub scope_group : List R → Scope → List Field
  scope_group items of =
      message 1 (common.scope of)
      ∷ (messages 2 form.fields_of (items_of form.scope_of items of)
      ++ text_if_given 3 of.schema_url)

  -- a batch of items of one resource, the scopes in the order in which they first appear
  abbrev pub request : Parts → List R → List Field
  request of items =
      request_of of (messages 2 (scope_group items) (first_scopes form.scope_of [] items))
