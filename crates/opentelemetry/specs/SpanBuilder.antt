-- The model of a span builder.
use Rattle.std.specs.Prelude.{ℕ, zero, suc, Bool, true, false, ◌&&◌, List, [], ◌∷◌, ◌++◌, Option, Some, None}
use Rattle.std.specs.Option.{unwrap_or}
use Rattle.std.specs.List.{filter}
use Rattle.otel_base.specs.KeyValue.{Attribute}
use Rattle.otel_context.specs.declared.span.status.SpanKind.{SpanKind}
use Rattle.opentelemetry.specs.Event.{EventRecord, LinkRecord}

-- which side of a call the span describes, its name, when it starts in nanoseconds since 1970, and
-- its attributes, events and links in order; `None` is left to the tracer [the Rust crate's
-- `SpanBuilder`]
pub record BuilderRecord : Type 0 where
  pub span_kind : Option SpanKind
  pub name : List ℕ
  pub start_time : Option ℕ
  pub attributes : Option (List Attribute)
  pub events : Option (List EventRecord)
  pub links : Option (List LinkRecord)

-- the builder named `name` with nothing else set [the Rust crate's `SpanBuilder::from_name`]
abbrev pub from_name : List ℕ → BuilderRecord
from_name name = record {
  span_kind = None;
  name = name;
  start_time = None;
  attributes = None;
  events = None;
  links = None;
}

-- the builder with one more attribute, the last one
abbrev pub with_attribute : BuilderRecord → Attribute → BuilderRecord
with_attribute b attribute = record b {
  attributes = Some (unwrap_or b.attributes [] ++ attribute ∷ []);
}

abbrev is_not_zero : ℕ → Bool
is_not_zero zero = false
is_not_zero (suc _) = true

-- whether both ids of the link's span context are nonzero
abbrev pub is_valid_link : LinkRecord → Bool
is_valid_link l = is_not_zero l.span_context.trace_id && is_not_zero l.span_context.span_id

-- the links with a valid span context, in order: for the ids (1, 1), (1, 0), (2, 3), the first and
-- the third
abbrev pub valid_links : List LinkRecord → List LinkRecord
valid_links = filter is_valid_link

-- the builder with the valid ones of these links in place of earlier links [the Rust crate's
-- `SpanBuilder::with_links`]
abbrev pub with_links : BuilderRecord → List LinkRecord → BuilderRecord
with_links b links = record b { links = Some (valid_links links) }
