-- The state of a recording span, and the effect of each call.
use Rattle.std.specs.Prelude.{ℕ, Bool, true, false, ◌&&◌, not, List, [], ◌∷◌, ◌++◌}
use Rattle.std.specs.Prelude.{Option, Some, None}
use Rattle.otel_base.specs.KeyValue.{Attribute}
use Rattle.otel_base.specs.View.{attribute_of}
use Rattle.otel_ids.specs.SpanContext.{SpanContextRecord}
use Rattle.otel_context.specs.SpanEffects.{attributes_of}
use Rattle.otel_context.specs.declared.span.status.Status.{Status}
use Rattle.otel_context.specs.declared.span.status.Status.TheVariants.{Unset}
use Rattle.otel_examples.specs.declared.recording.span.Effect.{Effect}
use Rattle.otel_examples.specs.declared.recording.span.Effect.TheVariants as E

-- an event, an attribute or a link that the span keeps
pub data Kept : Type 0 where
  event : List ℕ → ℕ → List Attribute → Kept
  attribute : Attribute → Kept
  link : SpanContextRecord → List Attribute → Kept

-- an effect, as contracts see it
abbrev pub kept : Effect → Kept
kept (E.Event name timestamp attributes) = event name timestamp (attributes_of attributes)
kept (E.Attribute set) = attribute (attribute_of set)
kept (E.Link context attributes) = link context (attributes_of attributes)

-- a recording span: its span context, its name, its effects in order, its status, the time at which
-- it ended, whether it records, and whether its next attribute stops the recording
pub record Recorded : Type 0 where
  pub context : SpanContextRecord
  pub name : List ℕ
  pub effects : List Kept
  pub status : Status
  pub ended : Option ℕ
  pub recording : Bool
  pub stops_at_attribute : Bool

-- a span without effects
abbrev pub new : SpanContextRecord → List ℕ → Recorded
new context name = record {
  context = context;
  name = name;
  effects = [];
  status = Unset;
  ended = None;
  recording = true;
  stops_at_attribute = false;
}

-- the same span with one more effect
abbrev pub with_effect : Recorded → Kept → Recorded
with_effect span effect = record span { effects = span.effects ++ effect ∷ [] }

-- the same span with an event
abbrev pub with_event : Recorded → List ℕ → ℕ → List Attribute → Recorded
with_event span name timestamp attributes = with_effect span (event name timestamp attributes)

-- the same span with an attribute, which may stop the recording
abbrev pub with_attribute : Recorded → Attribute → Recorded
with_attribute span set = record (with_effect span (attribute set)) {
  recording = span.recording && not span.stops_at_attribute;
}

-- the same span with a link
abbrev pub with_link : Recorded → SpanContextRecord → List Attribute → Recorded
with_link span context attributes = with_effect span (link context attributes)

-- the same span, ended and no longer recording
abbrev pub with_end : Recorded → ℕ → Recorded
with_end span timestamp = record span { ended = Some timestamp; recording = false }
