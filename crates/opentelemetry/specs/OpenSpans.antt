-- The open spans of a value that traces, and their source. Not in the Rust crate.
use Rattle.std.specs.Prelude.{◌≡◌, ℕ, List, ◌∷◌, ◌++◌, Some, IsPermutation, map, reverse, slice_get}
use Rattle.otel_context.specs.Context.{ContextRecord, with_span}
use Rattle.otel_context.specs.Spans as table
use Rattle.otel_context.specs.Spans.{SpansState}
use Rattle.opentelemetry.specs.SpanBuilder.{BuilderRecord}
use Rattle.opentelemetry.specs.SpanSource.{SourceCalls}
use Rattle.opentelemetry.specs.Tracing.{AreHeld, FallBelow, open_of, starting_at, without}
use Rattle.opentelemetry.specs.declared.trace.tracing.open_spans.OpenSpan.{OpenSpan}
use Rattle.otel_ids.specs.SpanContext.{SpanContextRecord}

-- the source, the spans by their numbers, the open ones (the newest first), and for how many of
-- these memory is there
pub record OpenState (B S : Type 0) : Type 0 where
  pub source : B
  pub spans : SpansState S
  pub places : List OpenSpan
  pub capacity : ℕ

module _ {B S : Type 0} (calls : SourceCalls B S) where
  -- Every span that began is open or was taken, once, with the ids with which it began. The open
  -- spans are in the table, under falling numbers.
  pub record IsSound (source : B) (spans : SpansState S) (places : List OpenSpan) : Type 0 where
    pub falling : FallBelow spans.next_number places
    pub held : AreHeld spans places
    pub once : IsPermutation
        (map calls.ids_of (calls.taken source) ++ map calls.ids_of (open_of spans places))
        (map calls.ids_of (calls.begun source))

  -- One of the spans that the source may build from the builder, at a timestamp of its clock and
  -- under the parent, is in the table, under the next number, and hasn't begun.
  pub record Builds (context_of : S → SpanContextRecord) (builder : BuilderRecord)
      (parent context : ContextRecord) (old new : OpenState B S) : Type 0 where
    pub timestamp : ℕ
    pub shown : calls.may_show old.source timestamp
    pub built : S
    pub may_build : calls.may_build old.source (starting_at timestamp builder) parent built
    pub is_active : context ≡ with_span parent (context_of built) old.spans.next_number
    pub state : new ≡ record old { spans = table.insert old.spans built }

  -- The span under the number of the place begins, and is the newest open one.
  pub record Begins (parent : ContextRecord) (place : OpenSpan) (old new : OpenState B S)
      : Type 0 where
    pub built : S
    pub found : table.get old.spans place.number ≡ Some built
    pub span : S
    pub begins : calls.begins old.source parent built new.source span
    pub same : new ≡ record old {
      source = new.source;
      spans = table.replace old.spans place.number span;
      places = place ∷ old.places;
    }

  -- The open span at the index, the oldest first, ended, and the source took it.
  pub record EndsAt (after_end : S → ℕ → S) (timestamp index : ℕ) (old new : OpenState B S)
      : Type 0 where
    pub place : OpenSpan
    pub is_at : slice_get (reverse old.places) index ≡ Some place
    pub span : S
    pub found : table.get old.spans place.number ≡ Some span
    pub taken : calls.takes old.source (after_end span timestamp) new.source
    pub same : new ≡ record old {
      source = new.source;
      spans = table.take old.spans place.number;
      places = without place.number old.places;
    }
