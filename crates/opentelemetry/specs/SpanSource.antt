-- What starts spans and takes those that end. Not in the Rust crate.
use Rattle.std.specs.Prelude.{◌≡◌, ℕ, Bool, true, false, List, [], ◌∷◌, ◌++◌, Option, None}
use Rattle.otel_base.specs.KeyValue.{Attribute}
use Rattle.otel_context.specs.Context.{ContextRecord, span_context}
use Rattle.otel_context.specs.declared.span.status.Status.{Status}
use Rattle.otel_ids.specs.SpanContext.{SpanContextRecord}
use Rattle.opentelemetry.specs.SpanBuilder.{BuilderRecord}

-- the ids of a span: its span context and, if the span knows them, its parent's id and whether the
-- parent is remote
pub record SpanIds : Type 0 where
  pub context : SpanContextRecord
  pub parent : Option (ℕ × Bool)

-- What a source of spans says about its calls.
pub record SourceCalls (B S : Type 0) : Type 1 where
  -- whether it starts no spans
  pub is_disabled : B → Bool
  -- its clock showed this timestamp
  pub may_show : B → ℕ → Type 0
  -- it built this span from the builder and under the parent
  pub may_build : B → BuilderRecord → ContextRecord → S → Type 0
  -- it was told that the span begins under the parent; afterwards it and the span are these
  pub begins : B → ContextRecord → S → B → S → Type 0
  -- it took a span that had ended
  pub takes : B → S → B → Type 0
  -- the spans that it was told of, as they began, in order
  pub begun : B → List S
  -- the spans that it took, in order
  pub taken : B → List S
  -- the ids of a span, which no call of the span changes
  pub ids_of : S → SpanIds

module _ {S I : Type 0} where
  -- no call of a span changes this of it
  pub record IsKept (kept : S → I) (after_event : S → List ℕ → ℕ → List Attribute → S)
      (after_attribute : S → Attribute → S)
      (after_link : S → SpanContextRecord → List Attribute → S) (after_status : S → Status → S)
      (after_name : S → List ℕ → S) (after_end : S → ℕ → S) : Type 0 where
    pub event : (span : S) (name : List ℕ) (time : ℕ) (attributes : List Attribute)
        → kept (after_event span name time attributes) ≡ kept span
    pub attribute : (span : S) (attribute : Attribute)
        → kept (after_attribute span attribute) ≡ kept span
    pub link : (span : S) (linked : SpanContextRecord) (attributes : List Attribute)
        → kept (after_link span linked attributes) ≡ kept span
    pub status : (span : S) (status : Status) → kept (after_status span status) ≡ kept span
    pub name : (span : S) (name : List ℕ) → kept (after_name span name) ≡ kept span
    pub end : (span : S) (time : ℕ) → kept (after_end span time) ≡ kept span

-- ---- the sources of the API

-- the ids of a span that knows only its span context
abbrev pub ids_of_context : SpanContextRecord → SpanIds
ids_of_context context = record { context = context; parent = None }

-- the tracer, and the spans that began and that were taken
pub record TracerParts (T S : Type 0) : Type 0 where
  pub tracer : T
  pub begun : List S
  pub taken : List S

-- A source over a tracer: it builds what the tracer may build, changes no span that begins, and
-- drops each span that it takes.
abbrev pub tracer_calls : {T S : Type 0} → (T → BuilderRecord → ContextRecord → S → Type 0)
    → (S → SpanContextRecord) → (ℕ → Type 0) → SourceCalls (TracerParts T S) S
tracer_calls may_build context_of may_show = record {
  is_disabled = λ _. false;
  may_show = λ _ now. may_show now;
  may_build = λ source builder parent span. may_build source.tracer builder parent span;
  begins = λ old _ span new begun. (begun ≡ span)
      × (new ≡ record old { begun = old.begun ++ span ∷ [] });
  takes = λ old span new. new ≡ record old { taken = old.taken ++ span ∷ [] };
  begun = λ source. source.begun;
  taken = λ source. source.taken;
  ids_of = λ span. ids_of_context (context_of span);
}

-- the spans that began and that were taken: none, unless a caller hands them over itself
pub record NoopParts : Type 0 where
  pub begun : List SpanContextRecord
  pub taken : List SpanContextRecord

-- a source that starts no spans
abbrev pub noop_calls : SourceCalls NoopParts SpanContextRecord
noop_calls = record {
  is_disabled = λ _. true;
  may_show = λ _ now. now ≡ 0;
  may_build = λ _ _ parent span. span ≡ span_context parent;
  begins = λ old _ span new begun. (begun ≡ span)
      × (new ≡ record old { begun = old.begun ++ span ∷ [] });
  takes = λ old span new. new ≡ record old { taken = old.taken ++ span ∷ [] };
  begun = λ source. source.begun;
  taken = λ source. source.taken;
  ids_of = ids_of_context;
}
