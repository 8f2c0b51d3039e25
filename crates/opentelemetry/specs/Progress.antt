-- The state after each event of a run. No public contract cites this file. Not in the Rust crate.
use Rattle.std.specs.Prelude.{◌≡◌, ℕ, ◌+◌, List, [], ◌∷◌, ◌++◌, map, Option, option_map}
use Rattle.std.specs.Prelude.{Result, IfOk}
use Rattle.std.specs.declared.vec.Vec.{Vec}
use Rattle.std.specs.declared.alloc.Global.{Global}
use Rattle.otel_context.specs.Context.{ContextRecord}
use Rattle.otel_context.specs.Stack.{StackState, current, IsLawful}
use Rattle.opentelemetry.specs.declared.carry.event.StackEvent.{StackEvent}
use Rattle.opentelemetry.specs.declared.carry.event.AttachOutcome.{AttachOutcome}
use Rattle.opentelemetry.specs.declared.carry.event.AttachOutcome.TheVariants.{Attached, Full}
use Rattle.opentelemetry.specs.declared.carry.event.AttachOutcome.TheVariants.{NoMemory}
use Rattle.opentelemetry.specs.Run.{IsCurrent, Legal, survivors, left_by, accepted_of}

-- the stack after an attach of the context with this outcome
abbrev pub after_attach : StackState → AttachOutcome → ContextRecord → StackState
after_attach old (Attached position) context = record {
  live = old.live ++ (position, context) ∷ [];
  accepted = old.accepted + 1;
  stepped = old.stepped;
}
after_attach old Full context = old
after_attach old NoMemory context = old

-- the outcomes, the position of each attach while it is live, and the stack are the results of the
-- events
pub record Stands
    (events : List StackEvent) (outcomes : List AttachOutcome)
    (kept : List (Option ℕ)) (stack : StackState) : Type 0 where
  pub legal : Legal events outcomes
  pub live : stack.live ≡ survivors events outcomes
  pub current : IsCurrent events outcomes (current stack.live)
  pub kept_are : kept ≡ map (option_map (λ a. a.0)) (left_by 0 events outcomes)
  pub lawful : IsLawful stack
  pub accepted : stack.accepted ≡ accepted_of outcomes
  pub stepped : stack.stepped ≡ 0

-- the outcomes and the stack are the results of the events
abbrev pub IsPlayed : List StackEvent → List AttachOutcome → StackState → Type 0
IsPlayed events outcomes stack = (kept : List (Option ℕ)) × Stands events outcomes kept stack

-- If the result is `Ok`, the events were applied: from the results of any earlier events to the
-- results of all events.
abbrev pub Plays : {E : Type 0} → List StackEvent
    → Vec AttachOutcome Global → Vec (Option ℕ) Global → StackState
    → Vec AttachOutcome Global → Vec (Option ℕ) Global → StackState → Result Unit E → Type 0
Plays events outcomes kept stack outcomes' kept' stack' result = IfOk result (λ _.
    (done : List StackEvent) → Stands done outcomes.items kept.items stack
    → Stands (done ++ events) outcomes'.items kept'.items stack')
