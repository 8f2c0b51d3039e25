-- The model of a stack of contexts: a list of live attachments with rising positions, and two
-- counts. Definitions have the names of the methods of `ContextStack`: `attach`, `detach`,
-- `current`, `newest_position`.
use Rattle.std.specs.Prelude.{◌≡◌, ◌≤◌, ℕ, ◌+◌, ◌<◌, ◌==◌, Bool, not, List, [], ◌∷◌, ◌++◌, length}
use Rattle.std.specs.Prelude.{map, filter, Option, None, option_map, Result, IfOk, OnErr, IfNone}
use Rattle.std.specs.List.{find, list_any, range_with_len}
use Rattle.otel_context.specs.Context.{ContextRecord, empty_context}

-- the live attachments, each at its position, in the order of the positions (the Rust crate's
-- `ContextStack`, without its holes). After attaching A, B, C and detaching position 2: (1, A) ∷
-- (3, C) ∷ []
abbrev pub Live : Type 0
Live = List (ℕ × ContextRecord)

-- the model of a stack: the live attachments, the number of accepted attaches, and the number of
-- emptied slots that were stepped over
--
-- The two counts don't exist at run time. A removal reads the slot of its position, which has the
-- neighbors, and otherwise only live ones, so it leaves `stepped` unchanged (not in the Rust
-- crate).
pub record StackState : Type 0 where
  pub live : Live
  pub accepted : ℕ
  pub stepped : ℕ

-- the empty stack (`ContextStack::new`)
abbrev pub new_stack : StackState
new_stack = record { live = []; accepted = 0; stepped = 0 }

-- the number of attachments for which a new stack has room (the Rust crate's `INITIAL_CAPACITY`)
abbrev pub initial_capacity : ℕ
initial_capacity = 8

-- the greatest position (the Rust crate's `MAX_POS`, less one)
abbrev pub last_position : ℕ
last_position = 65534

-- returned in place of a position, if the greatest is live (the Rust crate's `MAX_POS`)
abbrev pub no_position : ℕ
no_position = 65535

-- the last of a list, or `d`
abbrev pub last_or : {A : Type 0} → A → List A → A
last_or d [] = d
last_or d (x ∷ xs) = last_or x xs

-- the live positions, in order
abbrev pub positions : Live → List ℕ
positions live = map (λ a. a.0) live

-- the newest live position, or 0 (`ContextStack::newest_position`)
abbrev pub newest_position : Live → ℕ
newest_position live = last_or 0 (positions live)

-- the current context: the newest one, or the empty context (`ContextStack::current`)
abbrev pub current : Live → ContextRecord
current live = last_or empty_context (map (λ a. a.1) live)

-- the context at a position, if it is live
abbrev pub context_at : ℕ → Live → Option ContextRecord
context_at position live = option_map (λ a. a.1) (find (λ a. a.0 == position) live)

-- something is live at the position
abbrev pub is_live : ℕ → Live → Bool
is_live position live = list_any (λ a. a.0 == position) live

-- the attachments after attaching the context at the position above the newest
-- (`ContextStack::attach`, `ContextStack::push`). For (1, A) and B: (1, A) ∷ (2, B) ∷ []
abbrev pub attach : ContextRecord → Live → Live
attach context live = live ++ (newest_position live + 1, context) ∷ []

-- the attachments at the other positions (`ContextStack::detach`, `ContextStack::pop_id`). For (1,
-- A), (3, C) and 3: (1, A) ∷ []
abbrev pub detach : ℕ → Live → Live
detach position live = filter (λ a. not (a.0 == position)) live

-- the number of positions from 1 to the newest that aren't live, that is, of emptied slots. For (1,
-- A) ∷ (4, D) ∷ []: 2
abbrev pub emptied_of : Live → ℕ
emptied_of live =
    length (filter (λ p. not (is_live p live)) (range_with_len 1 (newest_position live)))

-- each number is above the one before it, the first above `p`
abbrev pub RisesAbove : ℕ → List ℕ → Type 0
RisesAbove p [] = Unit {0}
RisesAbove p (x ∷ xs) = (p < x) × RisesAbove x xs

-- the invariant of every stack
pub record IsLawful (stack : StackState) : Type 0 where
  -- positions rise from 1 on
  pub rising : RisesAbove 0 (positions stack.live)
  -- to 65534 at most
  pub within : newest_position stack.live ≤ last_position
  -- each position up to the newest is live or an emptied slot
  pub heights : emptied_of stack.live + length stack.live ≡ newest_position stack.live
  -- each accepted attach is counted at most once as stepped over, emptied or live
  pub law : stack.stepped + emptied_of stack.live + length stack.live ≤ stack.accepted

-- The effect of a call that attaches the context, and the position that it returns.
pub record Attaches {E : Type 0} (context : ContextRecord) (old new : StackState)
    (result : Result ℕ E) : Type 0 where
  -- if the greatest position is live, nothing changes
  pub full : newest_position old.live ≡ last_position
      → IfOk result (λ position. (position ≡ no_position) × (new ≡ old))
  -- otherwise the context is attached at the position above the newest
  pub accepted : newest_position old.live < last_position → IfOk result (λ position.
      (position ≡ newest_position old.live + 1)
      × (new ≡ record {
        live = attach context old.live;
        accepted = old.accepted + 1;
        stepped = old.stepped;
      }))
  -- after an error the stack is unchanged
  pub err : OnErr result (new ≡ old)
  pub lawful : IsLawful new

-- An attach may request memory: there is a position left, and the room of a new stack is used up.
pub record MayRequest (live : Live) : Type 0 where
  pub past : initial_capacity ≤ newest_position live
  pub left : newest_position live < last_position

-- The effect and the result of `ContextStack::detach` and `ContextStack::pop_id` at a position.
pub record Detaches (position : ℕ) (old new : StackState) (result : Option ContextRecord)
    : Type 0 where
  -- the context that is live there, if any
  pub given : result ≡ context_at position old.live
  -- if none is, nothing changes
  pub none : IfNone result (new ≡ old)
  -- nothing is ever live at 65535
  pub unattached : position ≡ no_position → (result ≡ None) × (new ≡ old)
  -- the other attachments and both counts are unchanged
  pub live : new.live ≡ detach position old.live
  pub accepted : new.accepted ≡ old.accepted
  pub stepped : new.stepped ≡ old.stepped
  pub lawful : IsLawful new
