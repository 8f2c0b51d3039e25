-- What a value that traces and exports does besides tracing. Not in the Rust crate.
use Rattle.std.specs.Prelude.{◌≡◌, ℕ, length, Result, Ok, Err}
use Rattle.opentelemetry.specs.SpanSource.{SourceCalls}
use Rattle.opentelemetry.specs.Tracing.{EndsTogether, TracingState}
use Rattle.otel_sdk.specs.Processor.{ProcessorCalls}
use Rattle.otel_sdk_base.specs.declared.error.OTelSdkError.{OTelSdkError}

-- the answer of a shutdown, with this number if it succeeded
abbrev pub counted : ℕ → Result (Unit {0}) OTelSdkError → Result ℕ OTelSdkError
counted count (Ok _) = Ok count
counted count (Err error) = Err error

-- Only the source was worked on, and no span of it began or ended meanwhile.
pub record OnlyWorks {B S : Type 0} (calls : SourceCalls B S) (old new : TracingState B S)
    : Type 0 where
  pub same : new ≡ record old { source = new.source }
  pub begun : calls.begun new.source ≡ calls.begun old.source
  pub taken : calls.taken new.source ≡ calls.taken old.source

module _ {B S X : Type 0} (calls : SourceCalls B S) (processing : ProcessorCalls X)
    (processors_of : B → X) where
  -- The processors were flushed, and gave the answer (`Exports::flush`).
  pub record Flushes (answer : Result (Unit {0}) OTelSdkError) (old new : TracingState B S)
      : Type 0 where
    pub flushed : processing.flushes (processors_of old.source) answer (processors_of new.source)
    pub works : OnlyWorks calls old new

  -- Each open span ended, the newest first, at one timestamp of the clock. Then the processors were
  -- shut down, and the answer is theirs, with the number of those spans (`Exports::shutdown`).
  pub record ShutsDown (after_end : S → ℕ → S) (answer : Result ℕ OTelSdkError)
      (old new : TracingState B S) : Type 0 where
    pub ended : TracingState B S
    pub ends : EndsTogether calls after_end old.places old ended
    pub told : Result (Unit {0}) OTelSdkError
    pub shut_down : processing.shuts_down (processors_of ended.source) told
        (processors_of new.source)
    pub answered : answer ≡ counted (length old.places) told
    pub works : OnlyWorks calls ended new
