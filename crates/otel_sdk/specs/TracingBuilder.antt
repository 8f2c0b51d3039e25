-- A value that traces, under construction. Not in the Rust crate.
use Rattle.std.specs.Prelude.{◌≡◌, Bool}
use Rattle.opentelemetry.specs.Tracing as tracing
use Rattle.opentelemetry.specs.Tracing.{TracingState}
use Rattle.otel_base.specs.InstrumentationScope.{Scope}
use Rattle.otel_sdk.specs.Processor.{ProcessorCalls}
use Rattle.otel_sdk.specs.SdkSource as source
use Rattle.otel_sdk.specs.SdkSource.{SourceState}
use Rattle.otel_sdk.specs.Tracer.{ProviderParts, TracerState, provider_of, tracer_of}
use Rattle.otel_sdk_base.specs.Queue.{Limits}
use Rattle.otel_sdk_base.specs.Resource.{for_service}
use Rattle.otel_sdk_span.specs.Span.{SpanState}

-- the parts of the provider, the processors, the limits of the queues of exporters that are added
-- later, whether these get spans, and whether it is disabled
pub record BuilderParts (S G X : Type 0) : Type 0 where
  pub provider : ProviderParts S G
  pub processors : X
  pub config : Limits
  pub exports : Bool
  pub is_disabled : Bool

-- the same parts with this provider
abbrev pub with_provider : {S T G H X : Type 0} → ProviderParts T H → BuilderParts S G X
    → BuilderParts T H X
with_provider provider parts = record {
  provider = provider;
  processors = parts.processors;
  config = parts.config;
  exports = parts.exports;
  is_disabled = parts.is_disabled;
}

-- the same parts with one more processor, after the others
abbrev pub with_last : {S G X Q : Type 0} → Q → BuilderParts S G X → BuilderParts S G (X × Q)
with_last processor parts = record {
  provider = parts.provider;
  processors = (parts.processors, processor);
  config = parts.config;
  exports = parts.exports;
  is_disabled = parts.is_disabled;
}

-- The value of these parts and this scope. Its processors were told the resource, which has the
-- scope's name as the service's unless it names one, and nothing has begun.
pub record IsBuilt {S G X : Type 0} (processing : ProcessorCalls X) (parts : BuilderParts S G X)
    (scope : Scope) (t : TracingState (SourceState (TracerState S G) X) SpanState) : Type 0 where
  pub processors : X
  pub told : processing.takes_resource parts.processors
      (for_service scope.name (provider_of parts.provider).resource) processors
  pub state : t ≡ tracing.at_start (source.at_start
      (tracer_of (provider_of parts.provider) scope) processors parts.is_disabled)
