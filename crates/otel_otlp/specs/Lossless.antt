-- The facts about a span that its value determines, and the facts about groups that a batch's value
-- determines.
use Rattle.std.specs.Prelude.{◌≡◌, ℕ, ℤ, ◌<◌, ◌^◌, List, [], ◌∷◌, map, filter, ⊤}
use Rattle.std.specs.Int.Signed.{mag}
use Rattle.std.specs.List.{All, AllZip}
use Rattle.otel_base.specs.Array.{ArrayValue, booleans, integers, texts}
use Rattle.otel_base.specs.InstrumentationScope.{Scope}
use Rattle.otel_base.specs.KeyValue.{Attribute}
use Rattle.otel_base.specs.Value as value
use Rattle.otel_base.specs.Value.{AttributeValue}
use Rattle.otel_ids.specs.SpanContext.{SpanContextRecord}
use Rattle.otel_ids.specs.TraceState.{header}
use Rattle.opentelemetry.specs.Event.{EventRecord, LinkRecord}
use Rattle.otel_sdk_base.specs.Resource.{Parts}
use Rattle.otel_sdk_span.specs.SpanData.{SpanRecord}
use Rattle.otel_otlp.specs.Common.{unique}
use Rattle.otel_otlp.specs.Groups.{is_of, first_scopes}
use Rattle.otel_otlp.specs.Json.{IsTextOf}
use Rattle.otel_otlp.specs.Traces.{span, scope_of, scope_spans, traces_data}

-- ---- as programs have it
-- an integer of 64 bits with its sign
abbrev pub IsInteger : ℤ → Type 0
IsInteger z = mag z < 2 ^ 63

-- its integers have 64 bits
abbrev pub IsArrayInRange : ArrayValue → Type 0
IsArrayInRange (booleans bs) = ⊤
IsArrayInRange (integers zs) = All IsInteger zs
IsArrayInRange (texts ss) = ⊤

abbrev pub IsValueInRange : AttributeValue → Type 0
IsValueInRange (value.boolean b) = ⊤
IsValueInRange (value.integer z) = IsInteger z
IsValueInRange (value.text s) = ⊤
IsValueInRange (value.array xs) = IsArrayInRange xs

abbrev pub AreInRange : List Attribute → Type 0
AreInRange = All (λ a. IsValueInRange a.1)

-- the trace id has 128 bits, the span id 64, the flags 8
pub record IsContextInRange (c : SpanContextRecord) : Type 0 where
  pub trace_id : c.trace_id < 2 ^ 128
  pub span_id : c.span_id < 2 ^ 64
  pub flags : c.trace_flags < 256

pub record IsEventInRange (e : EventRecord) : Type 0 where
  pub timestamp : e.timestamp < 2 ^ 64
  pub attributes : AreInRange e.attributes

pub record IsLinkInRange (l : LinkRecord) : Type 0 where
  pub context : IsContextInRange l.span_context
  pub attributes : AreInRange l.attributes

-- the parent's id and the times have 64 bits
pub record IsInRange (s : SpanRecord) : Type 0 where
  pub context : IsContextInRange s.span_context
  pub parent : s.parent_span_id < 2 ^ 64
  pub start : s.start_time < 2 ^ 64
  pub end : s.end_time < 2 ^ 64
  pub attributes : AreInRange s.attributes
  pub events : All IsEventInRange s.events
  pub links : All IsLinkInRange s.links
  pub scope : AreInRange s.scope.attributes

-- ---- attributes
-- the array, with one type for all arrays without items, since the text doesn't show their type
abbrev pub told_array : ArrayValue → ArrayValue
told_array (booleans []) = texts []
told_array (booleans (b ∷ bs)) = booleans (b ∷ bs)
told_array (integers []) = texts []
told_array (integers (z ∷ zs)) = integers (z ∷ zs)
told_array (texts ss) = texts ss

-- the facts about a value that the text shows
abbrev pub told_value : AttributeValue → AttributeValue
told_value (value.boolean b) = value.boolean b
told_value (value.integer z) = value.integer z
told_value (value.text s) = value.text s
told_value (value.array xs) = value.array (told_array xs)

-- the facts about attributes that the text shows: their keys and values in order, except for the
-- type of an array without items
abbrev pub told : List Attribute → List Attribute
told = map (λ a. (a.0, told_value a.1))

-- ---- spans
-- both have the same ids and flags, and the same trace state in a header
pub record SameContext (a b : SpanContextRecord) : Type 0 where
  pub trace_id : a.trace_id ≡ b.trace_id
  pub span_id : a.span_id ≡ b.span_id
  pub flags : a.trace_flags ≡ b.trace_flags
  pub trace_state : header a.trace_state ≡ header b.trace_state

-- both events have the same name, time, attributes and count of attributes that were dropped
pub record SameEvent (a b : EventRecord) : Type 0 where
  pub name : a.name ≡ b.name
  pub timestamp : a.timestamp ≡ b.timestamp
  pub attributes : told a.attributes ≡ told b.attributes
  pub dropped_attributes : a.dropped_attributes_count ≡ b.dropped_attributes_count

-- both links are to the same span, remote in both or in neither, and have the same attributes and
-- count of attributes that were dropped
pub record SameLink (a b : LinkRecord) : Type 0 where
  pub context : SameContext a.span_context b.span_context
  pub remote : a.span_context.is_remote ≡ b.span_context.is_remote
  pub attributes : told a.attributes ≡ told b.attributes
  pub dropped_attributes : a.dropped_attributes_count ≡ b.dropped_attributes_count

-- both spans have the same ids, the parent's too, the same flags, kind, name, times and status, the
-- same attributes, events and links, the same counts of what was dropped, the same trace state in a
-- header, and either both have a remote parent or neither
pub record SaysSame (s t : SpanRecord) : Type 0 where
  pub context : SameContext s.span_context t.span_context
  pub parent : s.parent_span_id ≡ t.parent_span_id
  pub remote : s.parent_span_is_remote ≡ t.parent_span_is_remote
  pub kind : s.span_kind ≡ t.span_kind
  pub name : s.name ≡ t.name
  pub start : s.start_time ≡ t.start_time
  pub end : s.end_time ≡ t.end_time
  pub status : s.status ≡ t.status
  pub attributes : told s.attributes ≡ told t.attributes
  pub events : AllZip SameEvent s.events t.events
  pub links : AllZip SameLink s.links t.links
  pub dropped_attributes : s.dropped_attributes ≡ t.dropped_attributes
  pub dropped_events : s.dropped_events ≡ t.dropped_events
  pub dropped_links : s.dropped_links ≡ t.dropped_links

-- spans with equal values are the same in this sense
abbrev pub EqualValuesSaySame : Type 0
EqualValuesSaySame =
    (s t : SpanRecord) → IsInRange s → IsInRange t → span s ≡ span t → SaysSame s t

-- ---- groups
-- both scopes have the same name, and the same version or none
pub record NamesSame (a b : Scope) : Type 0 where
  pub name : a.name ≡ b.name
  pub version : a.version ≡ b.version

-- groups of spans with equal values are of scopes with the same name and version
abbrev pub EqualGroupsNameSame : Type 0
EqualGroupsNameSame =
    (ss ts : List SpanRecord) (a b : Scope) → scope_spans ss a ≡ scope_spans ts b → NamesSame a b

-- both scopes have the same name, version and schema URL, or neither has one, and the same value
-- under each key, the keys in order
pub record SameScope (a b : Scope) : Type 0 where
  pub name : a.name ≡ b.name
  pub version : a.version ≡ b.version
  pub schema_url : a.schema_url ≡ b.schema_url
  pub attributes : told (unique a.attributes) ≡ told (unique b.attributes)

-- both resources have the same attributes, and the same schema URL or none
pub record SameResource (r q : Parts) : Type 0 where
  pub attributes : told r.attributes ≡ told q.attributes
  pub schema_url : r.schema_url ≡ q.schema_url

-- both scopes are the same, and the spans of one among ss are the same in this sense as the spans
-- of the other among ts, in order
pub record SameGroup (ss ts : List SpanRecord) (a b : Scope) : Type 0 where
  pub scope : SameScope a b
  pub spans : AllZip SaysSame (filter (is_of scope_of a) ss) (filter (is_of scope_of b) ts)

-- the scopes of the spans, in the order in which they first appear
abbrev pub scopes : List SpanRecord → List Scope
scopes = first_scopes scope_of []

-- both batches are of the same resource, and have the same groups, in order
pub record SameBatch (r q : Parts) (ss ts : List SpanRecord) : Type 0 where
  pub resource : SameResource r q
  pub groups : AllZip (SameGroup ss ts) (scopes ss) (scopes ts)

-- batches with equal values are the same in this sense
abbrev pub EqualBatchesSaySame : Type 0
EqualBatchesSaySame =
    (r q : Parts) (ss ts : List SpanRecord) → AreInRange r.attributes → AreInRange q.attributes
    → All IsInRange ss → All IsInRange ts → traces_data r ss ≡ traces_data q ts
    → SameBatch r q ss ts

-- no text belongs to two batches that aren't the same in this sense
abbrev pub EqualTextsSaySame : Type 0
EqualTextsSaySame =
    (text : List ℕ) (r q : Parts) (ss ts : List SpanRecord)
    → AreInRange r.attributes → AreInRange q.attributes → All IsInRange ss → All IsInRange ts
    → IsTextOf text (traces_data r ss) → IsTextOf text (traces_data q ts) → SameBatch r q ss ts
