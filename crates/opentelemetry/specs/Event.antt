-- The models of an event and a link of a span, and their equality.
use Rattle.std.specs.Prelude.{◌≡◌, ℕ, nat_eq, Bool, ◌&&◌, List}
use Rattle.std.proofs.Common.{refl, ap}
use Rattle.std.specs.Str.{bytes_eq}
use Rattle.std.specs.Bool.{Decides}
use Rattle.std.specs.Cmp.{unsigned_Decides}
use Rattle.std.specs.Cmp.Lexicographic.{pointwise}
use Rattle.std.proofs.lemmas.Bool.Decides.{Decides-and, Decides-like}
use Rattle.std.proofs.lemmas.Slice.Eq.{bytes_eq-Decides, slice_eq-Decides}
use Rattle.otel_base.specs.KeyValue.{Attribute}
use Rattle.otel_base.specs.KeyValue as attribute
use Rattle.otel_base.specs.KeyValueLaws.{attribute_eq-Decides}
use Rattle.otel_ids.specs.SpanContext.{SpanContextRecord}
use Rattle.otel_ids.specs.Equal.{contexts_eq, contexts_eq-Decides}

-- the name, the time in nanoseconds since 1970, the attributes in order, and the number of dropped
-- attributes [the Rust crate's `Event`]
pub record EventRecord : Type 0 where
  pub name : List ℕ
  pub timestamp : ℕ
  pub attributes : List Attribute
  pub dropped_attributes_count : ℕ

-- the span context of the other span, the attributes in order, and the number of dropped attributes
-- [the Rust crate's `Link`]
pub record LinkRecord : Type 0 where
  pub span_context : SpanContextRecord
  pub attributes : List Attribute
  pub dropped_attributes_count : ℕ

-- the event with these parts [`Event::new`]
abbrev pub new_event : List ℕ → ℕ → List Attribute → ℕ → EventRecord
new_event name timestamp attributes dropped = record {
  name = name;
  timestamp = timestamp;
  attributes = attributes;
  dropped_attributes_count = dropped;
}

-- the link with these parts [`Link::new`]
abbrev pub new_link : SpanContextRecord → List Attribute → ℕ → LinkRecord
new_link span_context attributes dropped = record {
  span_context = span_context;
  attributes = attributes;
  dropped_attributes_count = dropped;
}

-- ---- equality as a test
-- whether two lists have the same attributes in the same order
abbrev pub attributes_eq : List Attribute → List Attribute → Bool
attributes_eq = pointwise attribute.eq

attributes_eq-Decides : (xs ys : List Attribute) → Decides (attributes_eq xs ys) (xs ≡ ys)
attributes_eq-Decides xs ys = slice_eq-Decides attribute_eq-Decides xs ys _ refl

-- whether two events have the same parts
abbrev pub event_eq : EventRecord → EventRecord → Bool
event_eq a b =
    bytes_eq a.name b.name && (nat_eq a.timestamp b.timestamp
    && (attributes_eq a.attributes b.attributes
    && nat_eq a.dropped_attributes_count b.dropped_attributes_count))

-- whether two links have the same parts
abbrev pub link_eq : LinkRecord → LinkRecord → Bool
link_eq a b =
    contexts_eq a.span_context b.span_context
    && (attributes_eq a.attributes b.attributes
    && nat_eq a.dropped_attributes_count b.dropped_attributes_count)

-- ---- each test is true if and only if the records are equal
abbrev HasSameParts : EventRecord → EventRecord → Type 0
HasSameParts a b =
    (a.name ≡ b.name) × ((a.timestamp ≡ b.timestamp)
    × ((a.attributes ≡ b.attributes) × (a.dropped_attributes_count ≡ b.dropped_attributes_count)))

same_event : (a b : EventRecord) → HasSameParts a b → a ≡ b
same_event a b h = λ i. let r : EventRecord = record {
  name = h.0 i;
  timestamp = h.1.0 i;
  attributes = h.1.1.0 i;
  dropped_attributes_count = h.1.1.1 i;
} in r

parts_of_event : (a b : EventRecord) → a ≡ b → HasSameParts a b
parts_of_event a b e = (
  ap (λ (r : EventRecord). r.name) e,
  (
    ap (λ (r : EventRecord). r.timestamp) e,
    (
      ap (λ (r : EventRecord). r.attributes) e,
      ap (λ (r : EventRecord). r.dropped_attributes_count) e,
    ),
  ),
)

event_parts-Decides : (a b : EventRecord) → Decides (event_eq a b) (HasSameParts a b)
event_parts-Decides a b =
    let count = unsigned_Decides a.dropped_attributes_count b.dropped_attributes_count in
    let rest = Decides-and _ _ (attributes_eq-Decides a.attributes b.attributes) count in
    let moment = Decides-and _ _ (unsigned_Decides a.timestamp b.timestamp) rest in
    Decides-and _ _ (bytes_eq-Decides a.name b.name) moment

pub event_eq-Decides : (a b : EventRecord) → Decides (event_eq a b) (a ≡ b)
event_eq-Decides a b =
    Decides-like (event_eq a b) (same_event a b) (parts_of_event a b) (event_parts-Decides a b)

abbrev HasSameLinkParts : LinkRecord → LinkRecord → Type 0
HasSameLinkParts a b =
    (a.span_context ≡ b.span_context) × ((a.attributes ≡ b.attributes)
    × (a.dropped_attributes_count ≡ b.dropped_attributes_count))

same_link : (a b : LinkRecord) → HasSameLinkParts a b → a ≡ b
same_link a b h = λ i. let r : LinkRecord = record {
  span_context = h.0 i;
  attributes = h.1.0 i;
  dropped_attributes_count = h.1.1 i;
} in r

parts_of_link : (a b : LinkRecord) → a ≡ b → HasSameLinkParts a b
parts_of_link a b e = (
  ap (λ (r : LinkRecord). r.span_context) e,
  (ap (λ (r : LinkRecord). r.attributes) e, ap (λ (r : LinkRecord). r.dropped_attributes_count) e),
)

link_parts-Decides : (a b : LinkRecord) → Decides (link_eq a b) (HasSameLinkParts a b)
link_parts-Decides a b =
    let count = unsigned_Decides a.dropped_attributes_count b.dropped_attributes_count in
    let rest = Decides-and _ _ (attributes_eq-Decides a.attributes b.attributes) count in
    Decides-and _ _ (contexts_eq-Decides a.span_context b.span_context) rest

pub link_eq-Decides : (a b : LinkRecord) → Decides (link_eq a b) (a ≡ b)
link_eq-Decides a b =
    Decides-like (link_eq a b) (same_link a b) (parts_of_link a b) (link_parts-Decides a b)
