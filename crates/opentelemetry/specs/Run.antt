-- The meaning of a run of attaches and detaches, by the numbers of its attaches. Not in the Rust
-- crate. The attaches of a list of events are numbered from 0, in order. Each has an outcome, and
-- the outcomes are in the same order.
use Rattle.std.specs.Prelude.{◌≡◌, ◌≢◌, ◌⊎◌, ℕ, ◌+◌, ◌<◌, ◌≤◌, ◌==◌, if◌then◌else◌, Bool, true}
use Rattle.std.specs.Prelude.{false, List, [], ◌∷◌, length, take, filter, slice_get, Option, Some}
use Rattle.std.specs.Prelude.{None, IfSome}
use Rattle.std.specs.List.{list_any, filter_map}
use Rattle.otel_context.specs.Context.{ContextRecord, empty_context}
use Rattle.otel_context.specs.Stack.{Live, StackState, newest_position, initial_capacity}
use Rattle.otel_context.specs.Stack.{last_position}
use Rattle.opentelemetry.specs.declared.carry.event.StackEvent.{StackEvent}
use Rattle.opentelemetry.specs.declared.carry.event.StackEvent.TheVariants.{Attach, Detach}
use Rattle.opentelemetry.specs.declared.carry.event.AttachOutcome.{AttachOutcome}
use Rattle.opentelemetry.specs.declared.carry.event.AttachOutcome.TheVariants.{Attached, Full}
use Rattle.opentelemetry.specs.declared.carry.event.AttachOutcome.TheVariants.{NoMemory}

-- whether the event is an attach
abbrev pub is_attach : StackEvent → Bool
is_attach (Attach context) = true
is_attach (Detach number) = false

-- the number of attaches among the events
abbrev pub attaches_of : List StackEvent → ℕ
attaches_of events = length (filter is_attach events)

-- whether the outcome is `Attached`
abbrev pub is_attached : AttachOutcome → Bool
is_attached (Attached position) = true
is_attached Full = false
is_attached NoMemory = false

-- the number of outcomes that are `Attached`
abbrev pub accepted_of : List AttachOutcome → ℕ
accepted_of outcomes = length (filter is_attached outcomes)

-- whether the event is the detach of this number
abbrev pub detaches : ℕ → StackEvent → Bool
detaches number (Attach context) = false
detaches number (Detach other) = other == number

-- the attachment that an attach of the context with this outcome makes live, if any
abbrev pub attachment_of : AttachOutcome → ContextRecord → Option (ℕ × ContextRecord)
attachment_of (Attached position) context = Some (position, context)
attachment_of Full context = None
attachment_of NoMemory context = None

-- The remainder of each attach of the events, the first of which has the number `number`: its
-- position and context if it was accepted and no event after it detaches it, and otherwise nothing.
-- For attach a, attach b, detach 0 with the outcomes `Attached 1`, `Attached 2`: nothing, then (2,
-- b).
abbrev pub left_by : ℕ → List StackEvent → List AttachOutcome → List (Option (ℕ × ContextRecord))
left_by number [] outcomes = []
left_by number (Detach other ∷ events) outcomes = left_by number events outcomes
left_by number (Attach context ∷ events) [] = None ∷ left_by (number + 1) events []
left_by number (Attach context ∷ events) (outcome ∷ outcomes) =
    (if list_any (detaches number) events then None else attachment_of outcome context)
    ∷ left_by (number + 1) events outcomes

-- the attachments that survive the events, in the order of their attaches
abbrev pub survivors : List StackEvent → List AttachOutcome → Live
survivors events outcomes = filter_map (λ left. left) (left_by 0 events outcomes)

-- The stack after the events: the survivors are live, each accepted attach is counted, and no
-- emptied slot was stepped over.
abbrev pub stack_of : List StackEvent → List AttachOutcome → StackState
stack_of events outcomes = record {
  live = survivors events outcomes;
  accepted = accepted_of outcomes;
  stepped = 0;
}

-- The attach with the number `number` survives the events, at this position and with this context:
-- it is the event at `index`, its outcome is `Attached`, and no event after it detaches it.
pub record Survives
    (events : List StackEvent) (outcomes : List AttachOutcome)
    (number position : ℕ) (context : ContextRecord) : Type 0 where
  pub index : ℕ
  pub attach : slice_get events index ≡ Some (Attach context)
  pub number_is : attaches_of (take index events) ≡ number
  pub accepted : slice_get outcomes number ≡ Some (Attached position)
  pub kept : (later : ℕ) → index < later → slice_get events later ≢ Some (Detach number)

-- the context is the one of the latest attach that survives
pub record IsLatest
    (events : List StackEvent) (outcomes : List AttachOutcome)
    (context : ContextRecord) : Type 0 where
  pub number : ℕ
  pub position : ℕ
  pub survives : Survives events outcomes number position context
  pub latest : (other its_position : ℕ) (its : ContextRecord)
      → Survives events outcomes other its_position its → other ≤ number

-- no attach survives, and the context is the empty one
pub record IsBase
    (events : List StackEvent) (outcomes : List AttachOutcome)
    (context : ContextRecord) : Type 0 where
  pub none : (other its_position : ℕ) (its : ContextRecord)
      → ¬ Survives events outcomes other its_position its
  pub empty : context ≡ empty_context

-- The current context after the events: the one of the latest accepted attach that isn't detached,
-- or the empty base.
abbrev pub IsCurrent : List StackEvent → List AttachOutcome → ContextRecord → Type 0
IsCurrent events outcomes context =
    IsLatest events outcomes context ⊎ IsBase events outcomes context

-- The possible outcomes of an attach if this is the newest position: `Full` if and only if it is
-- the last one; `NoMemory`, for out of memory, only from 8 on; otherwise the next position.
abbrev pub IsOutcome : ℕ → AttachOutcome → Type 0
IsOutcome newest (Attached position) = (newest < last_position) × (position ≡ newest + 1)
IsOutcome newest Full = newest ≡ last_position
IsOutcome newest NoMemory = (initial_capacity ≤ newest) × (newest < last_position)

-- Each attach has an outcome that the survivors of the events before it allow.
pub record Legal (events : List StackEvent) (outcomes : List AttachOutcome) : Type 0 where
  pub one_each : length outcomes ≡ attaches_of events
  pub each : (index : ℕ) (context : ContextRecord) → slice_get events index ≡ Some (Attach context)
      → IfSome (slice_get outcomes (attaches_of (take index events)))
      (IsOutcome (newest_position (survivors (take index events) outcomes)))
