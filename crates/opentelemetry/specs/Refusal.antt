-- Which results are refusals.
use Rattle.std.specs.Prelude.{Bool, true, false, Result, Ok, Err}
use Rattle.opentelemetry.specs.declared.propagation.error.PropagationError.{PropagationError}
use Rattle.opentelemetry.specs.declared.propagation.error.PropagationError.TheVariants.{Memory}
use Rattle.opentelemetry.specs.declared.propagation.error.PropagationError.TheVariants.{Refused}

-- whether the result is the error `Refused`, and not `Memory`
abbrev pub is_refused : {T : Type 0} → Result T PropagationError → Bool
is_refused (Ok x) = false
is_refused (Err (Memory e)) = false
is_refused (Err Refused) = true
