-- The configuration that environment variables give. Not in the Rust crate, where each part reads
-- its own variables.
use Rattle.std.specs.Prelude.{◌≡◌, ℕ, Bool, ◌&&◌, ◌||◌, List, [], ◌++◌, Some, None, codes, refl, if◌then◌else◌}
use Rattle.std.specs.Option.{option_map_or}
use Rattle.std.specs.declared.alloc.Global.{Global}
use Rattle.std.specs.declared.vec.Vec.{Vec}
use Rattle.otel_sdk_base.specs.Queue.{effective}
use Rattle.otel_sdk_base.specs.Resource.{Parts, merge, with_defaults}
use Rattle.otel_sdk_base.specs.ResourceTexts.{from_texts}
use Rattle.otel_sdk_span.specs.declared.limits.SpanLimits.{SpanLimits}
use Rattle.otel_sdk.specs.EnvEndpoints.{AreFaults, endpoint_warnings}
use Rattle.otel_sdk.specs.EnvExport as export
use Rattle.otel_sdk.specs.EnvHeaders.{header_warnings}
use Rattle.otel_sdk.specs.EnvLimits as limits
use Rattle.otel_sdk.specs.EnvPropagators.{propagators, propagator_warnings}
use Rattle.otel_sdk.specs.EnvSampler.{sampler, sampler_warnings}
use Rattle.otel_sdk.specs.EnvTexts.{Variables}
use Rattle.otel_sdk.specs.EnvUnsupported.{unsupported_warnings}
use Rattle.otel_sdk.specs.Tracer.{ProviderParts, with_resource, with_sampler}
use Rattle.otel_sdk.specs.TracingBuilder.{BuilderParts}
use Rattle.otel_sdk.specs.declared.env.EnvConfig.{EnvConfig}
use Rattle.otel_sdk.specs.declared.env.endpoints.EndpointFaults.{EndpointFaults}
use Rattle.otel_sdk.specs.declared.env.export.EnvExporter.{EnvExporter}
use Rattle.otel_sdk_base.specs.declared.otlp.EnvOtlp.{EnvOtlp}
use Rattle.otel_sdk.specs.declared.env.groups.Choices.{Choices}
use Rattle.otel_sdk.specs.declared.env.groups.Destinations.{Destinations}
use Rattle.otel_sdk.specs.declared.env.groups.Limits.{Limits}
use Rattle.otel_sdk.specs.declared.env.groups.Outlets.{Outlets}
use Rattle.otel_sdk.specs.declared.env.limits.EnvBatches.{EnvBatches}
use Rattle.otel_sdk_logs.specs.Provider.{ProviderParts as LoggerParts}
use Rattle.otel_sdk_logs.specs.declared.limits.LogRecordLimits.{LogRecordLimits}
use Rattle.otel_sdk.specs.declared.env.propagators.EnvPropagator.{EnvPropagator}
use Rattle.otel_sdk.specs.declared.env.sampler.EnvSampler.{EnvSampler}
use Rattle.otel_sdk.specs.declared.env.sampler.EnvSampler.TheVariants.{Plain}
use Rattle.otel_sdk.specs.declared.env.warning.EnvWarning.{EnvWarning}
use Rattle.otel_sdk.specs.declared.trace.sampler.Sampler.TheVariants.{AlwaysOff}

-- the fields of `EnvConfig`, with a list for each vector
pub record Config : Type 0 where
  pub is_disabled : Bool
  pub service_name : List ℕ
  pub resource_attributes : List ℕ
  pub propagators : List EnvPropagator
  pub sampler : EnvSampler
  pub span_limits : SpanLimits
  pub log_limits : LogRecordLimits
  pub span_batches : EnvBatches
  pub log_batches : EnvBatches
  pub traces_exporter : EnvExporter
  pub logs_exporter : EnvExporter
  pub otlp_traces : EnvOtlp
  pub otlp_logs : EnvOtlp
  pub otlp_timeout_millis : ℕ
  pub warnings : List EnvWarning

-- an `EnvConfig` as a record
abbrev pub config_of : EnvConfig → Config
config_of c = record {
  is_disabled = c.is_disabled;
  service_name = c.service_name;
  resource_attributes = c.resource_attributes;
  propagators = c.propagators.items;
  sampler = c.sampler;
  span_limits = c.span_limits;
  log_limits = c.log_limits;
  span_batches = c.span_batches;
  log_batches = c.log_batches;
  traces_exporter = c.traces_exporter;
  logs_exporter = c.logs_exporter;
  otlp_traces = c.otlp_traces;
  otlp_logs = c.otlp_logs;
  otlp_timeout_millis = c.otlp_timeout_millis;
  warnings = c.warnings.items;
}

-- the configuration of these parts
abbrev pub joined : Choices → Limits → Outlets → Vec EnvWarning Global → EnvConfig
joined c l o warnings = record {
  is_disabled = c.is_disabled;
  service_name = c.service_name;
  resource_attributes = c.resource_attributes;
  propagators = c.propagators;
  sampler = c.sampler;
  span_limits = l.span_limits;
  log_limits = l.log_limits;
  span_batches = l.span_batches;
  log_batches = l.log_batches;
  traces_exporter = o.traces_exporter;
  logs_exporter = o.logs_exporter;
  otlp_traces = o.otlp.traces;
  otlp_logs = o.otlp.logs;
  otlp_timeout_millis = o.otlp_timeout_millis;
  warnings = warnings;
}

-- the exporters
abbrev pub traces_exporter : Variables → EnvExporter
traces_exporter vars = export.exporter (codes "OTEL_TRACES_EXPORTER") vars

abbrev pub logs_exporter : Variables → EnvExporter
logs_exporter vars = export.exporter (codes "OTEL_LOGS_EXPORTER") vars

-- spans and log records are sent there, and these are the faults of the endpoints
pub record AreDestinations (vars : Variables) (d : Destinations) : Type 0 where
  pub faults : AreFaults vars d.faults
  pub traces : d.traces ≡ export.otlp_traces d.faults vars
  pub logs : d.logs ≡ export.otlp_logs d.faults vars

-- the warnings about who traces and what, and about limits
abbrev pub choice_warnings : Variables → List EnvWarning
choice_warnings vars =
    export.disabled_warnings vars
    ++ export.resource_warnings vars
    ++ propagator_warnings vars
    ++ sampler_warnings vars

abbrev pub limits_warnings : Variables → List EnvWarning
limits_warnings vars =
    limits.general_warnings vars
    ++ limits.span_warnings vars
    ++ limits.log_warnings vars
    ++ limits.batches_warnings limits.span_names 5000 vars
    ++ limits.batches_warnings limits.log_names 1000 vars

-- the same about where spans and log records are sent, and about all of where to export
abbrev pub destination_warnings : EndpointFaults → Variables → List EnvWarning
destination_warnings faults vars = endpoint_warnings faults vars ++ header_warnings vars

abbrev pub outlet_warnings : EndpointFaults → Variables → List EnvWarning
outlet_warnings faults vars =
    export.exporter_warnings (codes "OTEL_TRACES_EXPORTER") vars
    ++ export.exporter_warnings (codes "OTEL_LOGS_EXPORTER") vars
    ++ destination_warnings faults vars
    ++ export.timeout_warnings vars
    ++ unsupported_warnings vars

-- the warnings about all variables
abbrev pub env_warnings : EndpointFaults → Variables → List EnvWarning
env_warnings faults vars =
    choice_warnings vars ++ limits_warnings vars ++ outlet_warnings faults vars

-- the configuration that the variables give, if these faults are found in the endpoints
abbrev pub env_config : EndpointFaults → Variables → Config
env_config faults vars = record {
  is_disabled = export.is_disabled vars;
  service_name = export.service_name vars;
  resource_attributes = export.resource_attributes vars;
  propagators = propagators vars;
  sampler = sampler vars;
  span_limits = limits.span_limits vars;
  log_limits = limits.log_limits vars;
  span_batches = limits.batches limits.span_names 5000 vars;
  log_batches = limits.batches limits.log_names 1000 vars;
  traces_exporter = traces_exporter vars;
  logs_exporter = logs_exporter vars;
  otlp_traces = export.otlp_traces faults vars;
  otlp_logs = export.otlp_logs faults vars;
  otlp_timeout_millis = export.timeout_millis vars;
  warnings = env_warnings faults vars;
}

-- the variables give this configuration
abbrev pub IsConfigOf : Variables → Config → Type 0
IsConfigOf vars config =
    (faults : EndpointFaults) × AreFaults vars faults × (config ≡ env_config faults vars)

-- the same variables give the same configuration
abbrev pub GiveOneConfig : Type 0
GiveOneConfig =
    (vars : Variables) (a b : Config) → IsConfigOf vars a → IsConfigOf vars b → a ≡ b

-- the default resource, updated by the one that the variables describe
abbrev pub resource_of : EnvConfig → Parts
resource_of c = merge with_defaults (from_texts c.resource_attributes c.service_name)

-- the sampler that counts: of no trace if the SDK is disabled
abbrev pub sampler_of : EnvConfig → EnvSampler
sampler_of c = if c.is_disabled then Plain AlwaysOff else c.sampler

-- the provider's builder with the configuration's sampler, resource and limits of spans
abbrev pub provider_with_env : {S G : Type 0} → EnvConfig → ProviderParts S G
    → ProviderParts EnvSampler G
provider_with_env c b =
    record (with_resource (resource_of c) (with_sampler (sampler_of c) b)) {
      limits = c.span_limits;
    }

-- the builder with the configuration's sampler, resource, limits of spans and sizes of batches,
-- whose later exporters get spans unless the configuration names no exporter, disabled if the
-- configuration is
abbrev pub with_env : {S G X : Type 0} → EnvConfig → BuilderParts S G X
    → BuilderParts EnvSampler G X
with_env c b = record {
  provider = provider_with_env c b.provider;
  processors = b.processors;
  config = effective (limits.sizes_of c.span_batches);
  exports = b.exports && export.exports c.traces_exporter;
  is_disabled = b.is_disabled || c.is_disabled;
}

-- the builder of a provider of loggers with the configuration's resource and limits of log records,
-- disabled if the configuration is
abbrev pub loggers_with_env : {P : Type 0} → EnvConfig → LoggerParts P → LoggerParts P
loggers_with_env c b = record b {
  resource = Some (option_map_or (λ old. merge old (resource_of c)) b.resource (resource_of c));
  limits = c.log_limits;
  is_disabled = b.is_disabled || c.is_disabled;
}

-- ---- worked rows
unset_example : (env_config (record { all = None; traces = None; logs = None }) []).warnings ≡ []
unset_example = refl
