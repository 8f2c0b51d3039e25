-- The error of a span that wasn't entered, as an error of the SDK.
use Rattle.opentelemetry.specs.declared.trace.tracing.NotEntered.{NotEntered}
use Rattle.opentelemetry.specs.declared.trace.tracing.NotEntered.TheVariants as entered
use Rattle.otel_sdk_base.specs.declared.error.OTelSdkError.{OTelSdkError}
use Rattle.otel_sdk_base.specs.declared.error.OTelSdkError.TheVariants.{Memory, NumbersUsedUp}
use Rattle.otel_sdk_base.specs.declared.error.OTelSdkError.TheVariants.{PositionsUsedUp}

-- used-up numbers and positions stay that, and out of memory stays out of memory
abbrev pub of_not_entered : NotEntered → OTelSdkError
of_not_entered entered.NumbersUsedUp = NumbersUsedUp
of_not_entered entered.PositionsUsedUp = PositionsUsedUp
of_not_entered (entered.Memory error) = Memory error
