-- The contract of an injection, by one propagator or by a composite.
use Rattle.std.specs.Prelude.{Bool, IsTrue, Result, OnOk, OnErr, ◌<◌, ◌≤◌, ◌⊎◌}
use Rattle.otel_context.specs.Context.{ContextRecord}
use Rattle.otel_context.specs.Stack.{StackState, current}
use Rattle.opentelemetry.specs.declared.propagation.error.PropagationError.{PropagationError}
use Rattle.opentelemetry.specs.Carrier.{CarrierState, Pairs, Sets, SetsBeginning}
use Rattle.opentelemetry.specs.Refusal.{is_refused}

-- An injection of the pairs changed the carrier from `old` to `new` and returned this result;
-- `may_refuse` says whether the propagator may itself refuse (`TextMapPropagator::inject_context`,
-- which returns nothing in the Rust crate).
pub record Injects {T : Type 0} (pairs : Pairs) (may_refuse : Bool) (old new : CarrierState)
    (result : Result T PropagationError) : Type 0 where
  -- after `Ok` all pairs are set
  pub ok : OnOk result (Sets old.texts pairs new.texts)
  -- after an error a prefix of the pairs is set
  pub err : OnErr result (SetsBeginning old.texts pairs new.texts)
  -- `Refused` is returned only if the propagator may refuse, or the carrier refused
  pub refused : IsTrue (is_refused result) → IsTrue may_refuse ⊎ (old.refusals < new.refusals)
  -- the carrier's count never decreases
  pub count : old.refusals ≤ new.refusals

module _ {P T : Type 0} (pairs : P → ContextRecord → Pairs) (may_refuse : P → Bool) (p : P) where
  -- an injection of a context by a propagator `p`, whose `pairs` and `may_refuse` are given
  abbrev pub InjectsBy : ContextRecord → CarrierState → CarrierState
      → Result T PropagationError → Type 0
  InjectsBy context old new result = Injects (pairs p context) (may_refuse p) old new result

  -- the same for the stack's current context
  abbrev pub InjectsCurrent : StackState → CarrierState → CarrierState
      → Result T PropagationError → Type 0
  InjectsCurrent stack old new result = InjectsBy (current stack.live) old new result
