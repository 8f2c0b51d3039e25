-- Laws about the definitions of a run. Not in the Rust crate.
use Rattle.std.specs.Prelude.{◌≡◌, ◌↔◌, ℕ, List, [], ◌∷◌, ◌++◌, length, slice_get, Some}
use Rattle.otel_context.specs.Context.{ContextRecord}
use Rattle.opentelemetry.specs.declared.carry.event.StackEvent.{StackEvent}
use Rattle.opentelemetry.specs.declared.carry.event.StackEvent.TheVariants.{Attach, Detach}
use Rattle.opentelemetry.specs.declared.carry.event.AttachOutcome.{AttachOutcome}
use Rattle.opentelemetry.specs.declared.carry.event.AttachOutcome.TheVariants.{Full, NoMemory}
use Rattle.opentelemetry.specs.Run.{attaches_of, left_by, stack_of, Survives}

-- an attach leaves its position and context if and only if it survives
abbrev pub SurvivorsAreThose : Type 0
SurvivorsAreThose = (events : List StackEvent) (outcomes : List AttachOutcome)
    → (number position : ℕ) (context : ContextRecord)
    → (slice_get (left_by 0 events outcomes) number ≡ Some (Some (position, context)))
    ↔ Survives events outcomes number position context

-- A refused attach, or a detach of a number that doesn't survive, leaves the stack unchanged: its
-- live attachments and both counts.
pub record IsNothing (events : List StackEvent) (outcomes : List AttachOutcome) : Type 0 where
  pub full : (context : ContextRecord)
      → stack_of (events ++ Attach context ∷ []) (outcomes ++ Full ∷ []) ≡ stack_of events outcomes
  pub no_memory : (context : ContextRecord)
      → stack_of (events ++ Attach context ∷ []) (outcomes ++ NoMemory ∷ [])
      ≡ stack_of events outcomes
  pub detach : (number : ℕ)
      → ((position : ℕ) (context : ContextRecord)
      → ¬ Survives events outcomes number position context)
      → stack_of (events ++ Detach number ∷ []) outcomes ≡ stack_of events outcomes

-- each refusal changes nothing
abbrev pub RefusalsChangeNothing : Type 0
RefusalsChangeNothing = (events : List StackEvent) (outcomes : List AttachOutcome)
    → length outcomes ≡ attaches_of events → IsNothing events outcomes
