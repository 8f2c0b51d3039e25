-- What is read from a line that the exporter writes: everything but what the line doesn't say.
use Rattle.std.specs.Prelude.{◌≡◌, ◌↔◌, ℕ, ◌<◌, ◌^◌, Bool, false, List, [], ◌∷◌, map, filter}
use Rattle.std.specs.List.{All}
use Rattle.otel_base.specs.InstrumentationScope.{Scope}
use Rattle.otel_ids.specs.Laws.{cut_value}
use Rattle.otel_ids.specs.SpanContext.{SpanContextRecord}
use Rattle.otel_ids.specs.TraceState.{IsState}
use Rattle.opentelemetry.specs.Event.{EventRecord, LinkRecord}
use Rattle.otel_sdk_base.specs.Resource.{Parts}
use Rattle.otel_sdk_span.specs.SpanData.{SpanRecord}
use Rattle.otel_otlp.specs.Common.{unique}
use Rattle.otel_otlp.specs.Groups.{BatchForm, is_of, first_scopes, batch_value}
use Rattle.otel_otlp.specs.Json.{IsTextOf}
use Rattle.otel_otlp.specs.Lossless.{told, AreInRange, IsInRange}
use Rattle.otel_otlp.specs.ReadGroups.{ResourceItems, joined, AreGroupsOf, AreItemsOf}
use Rattle.otel_otlp.specs.ReadTraces.{IsSpan}
use Rattle.otel_otlp.specs.Traces.{form}
use Rattle.serde_json.specs.Data.{Data}

-- ---- as programs have it
-- the trace state is one, and the number of dropped attributes has 32 bits
pub record IsHeldLink (l : LinkRecord) : Type 0 where
  pub state : IsState l.span_context.trace_state
  pub dropped : l.dropped_attributes_count < 2 ^ 32

abbrev pub IsHeldEvent : EventRecord → Type 0
IsHeldEvent e = e.dropped_attributes_count < 2 ^ 32

-- the numbers fit their types, and the trace states are ones
pub record IsHeld (s : SpanRecord) : Type 0 where
  pub in_range : IsInRange s
  pub state : IsState s.span_context.trace_state
  pub events : All IsHeldEvent s.events
  pub links : All IsHeldLink s.links
  pub dropped_attributes : s.dropped_attributes < 2 ^ 32
  pub dropped_events : s.dropped_events < 2 ^ 32
  pub dropped_links : s.dropped_links < 2 ^ 32

-- ---- what is read of it the context, without the blanks at the ends of the values of its trace
-- state, which a header can't say [W3C trace-context-2, "list"]
abbrev pub read_context : Bool → SpanContextRecord → SpanContextRecord
read_context remote c = record {
  trace_id = c.trace_id;
  span_id = c.span_id;
  trace_flags = c.trace_flags;
  is_remote = remote;
  trace_state = map cut_value c.trace_state;
}

-- the attributes, an array without items as one of texts
abbrev pub read_event : EventRecord → EventRecord
read_event e = record {
  name = e.name;
  timestamp = e.timestamp;
  attributes = told e.attributes;
  dropped_attributes_count = e.dropped_attributes_count;
}

abbrev pub read_link : LinkRecord → LinkRecord
read_link l = record {
  span_context = read_context l.span_context.is_remote l.span_context;
  attributes = told l.attributes;
  dropped_attributes_count = l.dropped_attributes_count;
}

-- each key once, with its last value at its first place
abbrev pub read_scope : Scope → Scope
read_scope s = record {
  name = s.name;
  version = s.version;
  schema_url = s.schema_url;
  attributes = told (unique s.attributes);
}

-- the span of a group of this scope, which is the same as the span's; its own context isn't remote
abbrev pub read_span : Scope → SpanRecord → SpanRecord
read_span scope s = record {
  span_context = read_context false s.span_context;
  parent_span_id = s.parent_span_id;
  parent_span_is_remote = s.parent_span_is_remote;
  span_kind = s.span_kind;
  name = s.name;
  start_time = s.start_time;
  end_time = s.end_time;
  attributes = told s.attributes;
  dropped_attributes = s.dropped_attributes;
  events = map read_event s.events;
  dropped_events = s.dropped_events;
  links = map read_link s.links;
  dropped_links = s.dropped_links;
  status = s.status;
  scope = read_scope scope;
}

-- the resource, each key once
abbrev pub read_resource : Parts → Parts
read_resource r = record {
  attributes = unique (told r.attributes);
  schema_url = r.schema_url;
}

-- ---- batches of any form; `read` gives what is read of an item in a group of a scope
module _ {R : Type 0} (form : BatchForm R) (read : Scope → R → R) where
  -- the items of the scope, in order
  abbrev pub read_group : List R → Scope → List R
  read_group xs scope = map (read scope) (filter (is_of form.scope_of scope) xs)

  -- all items, scope by scope, the scopes in the order in which they first appear
  abbrev pub read_items : List R → List R
  read_items xs = joined (map (read_group xs) (first_scopes form.scope_of [] xs))

  abbrev pub read_batch : Parts → List R → ResourceItems R
  read_batch r xs = record { resource = read_resource r; items = read_items xs }

-- `Says` is what a value says of an item, `IsHeld` an item as programs have it, and `IsLine` a line
-- of a value
module _ {R : Type 0} (form : BatchForm R) (read : Scope → R → R) (Says : Data → R → Type 0)
    (IsHeld : R → Type 0) (IsLine : List ℕ → Data → Type 0) where
  -- from a line of a batch exactly that is read
  abbrev pub GroupsReadBack : Type 0
  GroupsReadBack =
      (line : List ℕ) (r : Parts) (xs : List R)
      → AreInRange r.attributes → All IsHeld xs → IsLine line (batch_value form r xs)
      → (gs : List (ResourceItems R))
      → AreGroupsOf form Says line gs ↔ (gs ≡ read_batch form read r xs ∷ [])

  -- the same without the resources
  abbrev pub ItemsReadBack : Type 0
  ItemsReadBack =
      (line : List ℕ) (r : Parts) (xs : List R)
      → AreInRange r.attributes → All IsHeld xs → IsLine line (batch_value form r xs)
      → (ys : List R) → AreItemsOf form Says line ys ↔ (ys ≡ read_items form read xs)

-- ---- there and back
-- from the text of a batch of spans exactly that is read
abbrev pub BatchesReadBack : Type 0
BatchesReadBack = GroupsReadBack form read_span IsSpan IsHeld IsTextOf

-- the same without the resources
abbrev pub SpansReadBack : Type 0
SpansReadBack = ItemsReadBack form read_span IsSpan IsHeld IsTextOf
