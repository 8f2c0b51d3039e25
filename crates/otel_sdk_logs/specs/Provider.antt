-- The parts of a logger provider.
use Rattle.std.specs.Prelude.{Bool, Option}
use Rattle.otel_sdk_base.specs.Resource.{Parts}
use Rattle.otel_sdk_logs.specs.declared.limits.LogRecordLimits.{LogRecordLimits}

-- a provider; the loggers of a disabled one emit nothing
pub record ProviderState : Type 0 where
  pub resource : Parts
  pub limits : LogRecordLimits
  pub is_disabled : Bool

-- a provider's builder; without a resource, the default one is used
pub record ProviderParts (P : Type 0) : Type 0 where
  pub processor : P
  pub resource : Option Parts
  pub limits : LogRecordLimits
  pub is_disabled : Bool
