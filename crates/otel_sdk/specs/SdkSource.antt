-- The source of the spans of the SDK's value that traces: a pipeline that starts them, and the
-- processors that take those that end. Not in the Rust crate.
use Rattle.std.specs.Prelude.{◌≡◌, ℕ, Bool, List, [], ◌∷◌, ◌++◌, MatchBool, MatchOption}
use Rattle.otel_context.specs.Context.{ContextRecord}
use Rattle.opentelemetry.specs.SpanBuilder.{BuilderRecord}
use Rattle.opentelemetry.specs.SpanSource.{SourceCalls}
use Rattle.otel_sdk.specs.Processor.{ProcessorCalls, ids_of}
use Rattle.otel_sdk_span.specs.Span.{SpanState}

-- the pipeline and the processors, whether no span starts, and the spans that began and that ended
pub record SourceState (P X : Type 0) : Type 0 where
  pub pipeline : P
  pub processors : X
  pub is_disabled : Bool
  pub begun : List SpanState
  pub taken : List SpanState

-- A source of spans that the pipeline may start. The pipeline and then the processors are told of
-- each one that begins, before it is the current one, and the processors get the data of each one
-- that ends.
abbrev pub sdk_calls : {P X : Type 0} → (P → ℕ → Type 0)
    → (P → BuilderRecord → ContextRecord → SpanState → Type 0)
    → (P → ContextRecord → SpanState → P → Type 0) → ProcessorCalls X
    → SourceCalls (SourceState P X) SpanState
sdk_calls may_show may_start begins processing = record {
  is_disabled = λ s. s.is_disabled;
  may_show = λ s now. MatchBool s.is_disabled (now ≡ 0) (may_show s.pipeline now);
  may_build = λ s builder parent span. may_start s.pipeline builder parent span;
  begins = λ old parent span new begun. begins old.pipeline parent span new.pipeline
      × processing.starts old.processors parent span new.processors begun
      × (new ≡ record old {
        pipeline = new.pipeline;
        processors = new.processors;
        begun = old.begun ++ begun ∷ [];
      });
  takes = λ old span new. MatchOption span.recorded (new.processors ≡ old.processors)
      (λ recorded. processing.ends old.processors recorded new.processors)
      × (new ≡ record old { processors = new.processors; taken = old.taken ++ span ∷ [] });
  begun = λ s. s.begun;
  taken = λ s. s.taken;
  ids_of = ids_of;
}

-- nothing has begun
abbrev pub at_start : {P X : Type 0} → P → X → Bool → SourceState P X
at_start pipeline processors is_disabled = record {
  pipeline = pipeline;
  processors = processors;
  is_disabled = is_disabled;
  begun = [];
  taken = [];
}
