-- The effects of the calls on stacks.
use Rattle.std.specs.Prelude.{◌≡◌, ◌⊎◌, ℕ, ◌+◌, Option, Some, IsSome}
use Rattle.otel_context.specs.Context.{ContextRecord}
use Rattle.otel_context.specs.Stack.{StackState, last_position, newest_position, current}
use Rattle.otel_context.specs.Stack.{context_at, attach, detach}
use Rattle.otel_c.specs.declared.object.Object.{Object}
use Rattle.otel_c.specs.declared.status.Status.{Status}
use Rattle.otel_c.specs.declared.status.Status.TheVariants as status
use Rattle.otel_c.specs.Object.{context_of, stack_of}
use Rattle.otel_c.specs.Context.{CopyRefused}
use Rattle.otel_c.specs.Status.{IsOutOfMemory, IsOtherKind, IsNothing}

-- the stack once the context is attached, at the position above the newest
abbrev pub attached : ContextRecord → StackState → StackState
attached context stack = record stack {
  live = attach context stack.live;
  accepted = stack.accepted + 1;
}

-- the stack once the position is empty
abbrev pub detached : ℕ → StackState → StackState
detached position stack = record stack { live = detach position stack.live }

-- the stack of the object has the context, at that position
pub record Pushes (context : ContextRecord) (old new : Option Object) (position : ℕ) : Type 0 where
  pub stack : StackState
  pub onto : stack_of old ≡ Some stack
  pub at : position ≡ newest_position stack.live + 1
  pub into : stack_of new ≡ Some (attached context stack)

-- the stack of one object has the context of the other, at that position
pub record Attaches (object old new : Option Object) (position : ℕ) : Type 0 where
  pub context : ContextRecord
  pub from : context_of object ≡ Some context
  pub pushes : Pushes context old new position

-- the status says that no position is left, and none is
pub record IsFull (stack : StackState) (s : Status) : Type 0 where
  pub status : s ≡ status.Refused
  pub is : newest_position stack.live ≡ last_position

-- the stack of the object is full
pub record HoldsFull (object : Option Object) (s : Status) : Type 0 where
  pub stack : StackState
  pub from : stack_of object ≡ Some stack
  pub full : IsFull stack s

-- why nothing was pushed onto the stack of the object
abbrev pub PushRefused : Option Object → Status → Type 0
PushRefused old s = IsOutOfMemory s ⊎ (IsOtherKind (stack_of old) s ⊎ HoldsFull old s)

-- why nothing was attached
abbrev pub AttachRefused : Option Object → Option Object → Status → Type 0
AttachRefused object old s = CopyRefused object s ⊎ PushRefused old s

-- the attachment at the position is removed from the stack
pub record Detaches (position : ℕ) (old new : Option Object) : Type 0 where
  pub stack : StackState
  pub from : stack_of old ≡ Some stack
  pub was : IsSome (context_at position stack.live)
  pub into : stack_of new ≡ Some (detached position stack)

-- nothing is live at the position, and the status says so
pub record IsUnattached (position : ℕ) (object : Option Object) (s : Status) : Type 0 where
  pub stack : StackState
  pub from : stack_of object ≡ Some stack
  pub none : IsNothing (context_at position stack.live) s

-- why nothing was detached
abbrev pub DetachRefused : ℕ → Option Object → Status → Type 0
DetachRefused position old s = IsOtherKind (stack_of old) s ⊎ IsUnattached position old s

-- the context is the current one of the stack
pub record GivesCurrent (object : Option Object) (context : ContextRecord) : Type 0 where
  pub stack : StackState
  pub from : stack_of object ≡ Some stack
  pub is : context ≡ current stack.live

-- the handle holds the current context of the stack
pub record HasCurrent (object new : Option Object) : Type 0 where
  pub context : ContextRecord
  pub given : GivesCurrent object context
  pub into : context_of new ≡ Some context

-- why the current context wasn't returned
abbrev pub CurrentRefused : Option Object → Status → Type 0
CurrentRefused object s = IsOutOfMemory s ⊎ IsOtherKind (stack_of object) s
