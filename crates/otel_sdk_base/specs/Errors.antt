-- The error of the SDK that stands for an error of the API or of I/O.
use Rattle.std.specs.Prelude.{alloc_error}
use Rattle.std.specs.IoError.{error_kind}
use Rattle.std.specs.declared.io.Error.{Error}
use Rattle.std.specs.declared.io.ErrorKind.{ErrorKind}
use Rattle.std.specs.declared.io.ErrorKind.TheVariants.{OutOfMemory}
use Rattle.otel_context.specs.declared.span.spans.SpanCause.{SpanCause}
use Rattle.otel_context.specs.declared.span.spans.SpanCause.TheVariants as cause
use Rattle.opentelemetry.specs.declared.propagation.error.PropagationError.{PropagationError}
use Rattle.opentelemetry.specs.declared.propagation.error.PropagationError.TheVariants as propagation
use Rattle.opentelemetry.specs.declared.trace.in_span.StartError.{StartError}
use Rattle.opentelemetry.specs.declared.trace.in_span.StartError.TheVariants as start
use Rattle.otel_sdk_base.specs.declared.error.OTelSdkError.{OTelSdkError}
use Rattle.otel_sdk_base.specs.declared.error.OTelSdkError.TheVariants.{Memory, NumbersUsedUp}
use Rattle.otel_sdk_base.specs.declared.error.OTelSdkError.TheVariants.{PropagationRefused, Io}

-- used-up numbers stay used-up numbers, and out of memory stays out of memory
abbrev pub of_cause : SpanCause → OTelSdkError
of_cause cause.NumbersUsedUp = NumbersUsedUp
of_cause (cause.Memory error) = Memory error

-- out of memory before the span was built, or the cause of the refusal
abbrev pub of_start : {S : Type 0} → StartError S → OTelSdkError
of_start (start.Build error) = Memory error
of_start (start.Refused refused) = of_cause refused.cause

-- a refusal stays a refusal
abbrev pub of_propagation : PropagationError → OTelSdkError
of_propagation (propagation.Memory error) = Memory error
of_propagation propagation.Refused = PropagationRefused

-- an I/O error of the given kind: itself, unless it is out of memory
abbrev pub of_kind : ErrorKind → Error → OTelSdkError
of_kind OutOfMemory error = Memory alloc_error
of_kind _ error = Io error

-- the I/O error itself, unless it is out of memory
abbrev pub of_io : Error → OTelSdkError
of_io error = of_kind (error_kind error) error
