-- The contract of an extraction, by one propagator or by a composite.
use Rattle.std.specs.Prelude.{◌≡◌, Bool, IsTrue, Result, IfOk}
use Rattle.otel_context.specs.Context.{ContextRecord}
use Rattle.otel_context.specs.Stack.{StackState, current}
use Rattle.opentelemetry.specs.Carrier.{TextMap}
use Rattle.opentelemetry.specs.declared.propagation.error.PropagationError.{PropagationError}
use Rattle.opentelemetry.specs.Refusal.{is_refused}

-- An extraction of this context returned this result; `may_refuse` says whether the propagator may
-- itself refuse (the Rust crate's `TextMapPropagator`, whose calls return no error).
pub record Extracts (context : ContextRecord) (may_refuse : Bool)
    (result : Result ContextRecord PropagationError) : Type 0 where
  -- `Ok` holds the context
  pub ok : IfOk result (λ given. given ≡ context)
  -- `Refused` is returned only if the propagator may refuse
  pub refused : IsTrue (is_refused result) → IsTrue may_refuse

-- An extraction from the texts by a propagator `p`, whose `extracted` and `may_refuse` are given,
-- starting from the stack's current context.
abbrev pub ExtractsCurrent : {P : Type 0} → (P → ContextRecord → TextMap → ContextRecord)
    → (P → Bool) → P → StackState → TextMap → Result ContextRecord PropagationError → Type 0
ExtractsCurrent extracted may_refuse p stack texts result =
    Extracts (extracted p (current stack.live) texts) (may_refuse p) result
