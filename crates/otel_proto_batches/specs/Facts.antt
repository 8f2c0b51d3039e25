-- The facts about a batch, and about a span, that their bytes show.
use Rattle.std.specs.Prelude.{ℕ, List, [], ◌∷◌, map, Bool, Option, Some, None}
use Rattle.otel_base.specs.Array.{ArrayValue, booleans, integers, texts}
use Rattle.otel_base.specs.InstrumentationScope.{Scope}
use Rattle.otel_base.specs.KeyValue.{Attribute}
use Rattle.otel_base.specs.Value as value
use Rattle.otel_base.specs.Value.{AttributeValue}
use Rattle.otel_context.specs.declared.span.status.SpanKind.{SpanKind}
use Rattle.otel_context.specs.declared.span.status.Status.{Status}
use Rattle.otel_ids.specs.SpanContext.{SpanContextRecord}
use Rattle.otel_ids.specs.TraceState.{header}
use Rattle.opentelemetry.specs.Event.{EventRecord, LinkRecord}
use Rattle.otel_sdk_base.specs.Resource.{Parts}
use Rattle.otel_sdk_span.specs.SpanData.{SpanRecord}
use Rattle.otel_proto_batches.specs.Common.{unique}
use Rattle.otel_proto_batches.specs.Groups.{items_of, first_scopes}

-- ---- attributes
-- the array, with one type for all arrays without items, since the bytes don't show their type
abbrev pub told_array : ArrayValue → ArrayValue
told_array (booleans []) = texts []
told_array (booleans (b ∷ bs)) = booleans (b ∷ bs)
told_array (integers []) = texts []
told_array (integers (z ∷ zs)) = integers (z ∷ zs)
told_array (texts ss) = texts ss

abbrev pub told_value : AttributeValue → AttributeValue
told_value (value.boolean b) = value.boolean b
told_value (value.integer z) = value.integer z
told_value (value.text s) = value.text s
told_value (value.array xs) = value.array (told_array xs)

-- the key, and the value except for the type of an array without items
abbrev pub told_attribute : Attribute → Attribute
told_attribute a = (a.0, told_value a.1)

-- the attributes in order
abbrev pub told : List Attribute → List Attribute
told = map told_attribute

-- none is the same as the empty one
abbrev pub told_text : Option (List ℕ) → List ℕ
told_text None = []
told_text (Some text) = text

-- ---- spans
-- the ids and the flags, and the trace state as the text of its header
pub record ContextFacts : Type 0 where
  pub trace_id : ℕ
  pub span_id : ℕ
  pub trace_flags : ℕ
  pub trace_state : List ℕ

abbrev pub context_facts : SpanContextRecord → ContextFacts
context_facts c = record {
  trace_id = c.trace_id;
  span_id = c.span_id;
  trace_flags = c.trace_flags;
  trace_state = header c.trace_state;
}

-- the name, the time, the attributes and the number of dropped ones
abbrev pub event_facts : EventRecord → EventRecord
event_facts e = record e { attributes = told e.attributes }

-- the linked span, and whether it is remote; the attributes and the number of dropped ones
pub record LinkFacts : Type 0 where
  pub context : ContextFacts
  pub is_remote : Bool
  pub attributes : List Attribute
  pub dropped_attributes : ℕ

abbrev pub link_facts : LinkRecord → LinkFacts
link_facts l = record {
  context = context_facts l.span_context;
  is_remote = l.span_context.is_remote;
  attributes = told l.attributes;
  dropped_attributes = l.dropped_attributes_count;
}

-- all but whether the span's own context is remote, and its scope
pub record SpanFacts : Type 0 where
  pub context : ContextFacts
  pub parent_span_id : ℕ
  pub parent_span_is_remote : Bool
  pub span_kind : SpanKind
  pub name : List ℕ
  pub start_time : ℕ
  pub end_time : ℕ
  pub attributes : List Attribute
  pub dropped_attributes : ℕ
  pub events : List EventRecord
  pub dropped_events : ℕ
  pub links : List LinkFacts
  pub dropped_links : ℕ
  pub status : Status

abbrev pub span_facts : SpanRecord → SpanFacts
span_facts s = record {
  context = context_facts s.span_context;
  parent_span_id = s.parent_span_id;
  parent_span_is_remote = s.parent_span_is_remote;
  span_kind = s.span_kind;
  name = s.name;
  start_time = s.start_time;
  end_time = s.end_time;
  attributes = told s.attributes;
  dropped_attributes = s.dropped_attributes;
  events = map event_facts s.events;
  dropped_events = s.dropped_events;
  links = map link_facts s.links;
  dropped_links = s.dropped_links;
  status = s.status;
}

-- ---- batches
-- the name, the version and the schema URL, and each key once with its last value
abbrev pub scope_facts : Scope → Scope
scope_facts s = record {
  name = s.name;
  version = Some (told_text s.version);
  schema_url = Some (told_text s.schema_url);
  attributes = told (unique s.attributes);
}

-- the attributes and the schema URL
abbrev pub resource_facts : Parts → Parts
resource_facts r = record {
  attributes = told r.attributes;
  schema_url = Some (told_text r.schema_url);
}

-- a scope with the facts about its items
pub record GroupFacts (F : Type 0) : Type 0 where
  pub scope : Scope
  pub items : List F

-- a resource with its groups
pub record BatchFacts (F : Type 0) : Type 0 where
  pub resource : Parts
  pub groups : List (GroupFacts F)

-- `scope_of` gives the scope of an item, and `facts` the facts about it
module _ {R F : Type 0} (scope_of : R → Scope) (facts : R → F) where
  abbrev pub group_facts : List R → Scope → GroupFacts F
  group_facts items of = record {
    scope = scope_facts of;
    items = map facts (items_of scope_of items of);
  }

  -- the scopes in the order in which they first appear
  abbrev pub batch_facts : Parts → List R → BatchFacts F
  batch_facts of items = record {
    resource = resource_facts of;
    groups = map (group_facts items) (first_scopes scope_of [] items);
  }
