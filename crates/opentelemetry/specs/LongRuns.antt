-- Runs with as many attaches as there are positions. Not in the Rust crate.
use Rattle.std.specs.Prelude.{◌≡◌, ◌↔◌, ℕ, ◌+◌, ◌≤◌, List, [], ◌∷◌, ◌++◌, length, map}
use Rattle.std.specs.List.{enumerate_from, range_with_len}
use Rattle.otel_context.specs.Context.{ContextRecord}
use Rattle.otel_context.specs.Stack.{last_position}
use Rattle.opentelemetry.specs.declared.carry.event.StackEvent.{StackEvent}
use Rattle.opentelemetry.specs.declared.carry.event.StackEvent.TheVariants.{Attach, Detach}
use Rattle.opentelemetry.specs.declared.carry.event.AttachOutcome.{AttachOutcome}
use Rattle.opentelemetry.specs.declared.carry.event.AttachOutcome.TheVariants.{Attached, Full}
use Rattle.opentelemetry.specs.Run.{survivors, Legal}

-- an attach of each context, in order
abbrev pub attaches : List ContextRecord → List StackEvent
attaches contexts = map (λ context. Attach context) contexts

-- the detaches of the first `n` numbers, in order
abbrev pub detaches_below : ℕ → List StackEvent
detaches_below n = map (λ number. Detach number) (range_with_len 0 n)

-- the outcomes of `n` accepted attaches, at the positions from 1 on
abbrev pub in_order : ℕ → List AttachOutcome
in_order n = map (λ position. Attached position) (range_with_len 1 n)

-- Only attaches, up to the limit: each is accepted, at the positions from 1 on, and all survive.
-- One more attach is `Full` if and only if there are 65534.
pub record IsInOrder (contexts : List ContextRecord) : Type 0 where
  pub legal : Legal (attaches contexts) (in_order (length contexts))
  pub all : survivors (attaches contexts) (in_order (length contexts)) ≡ enumerate_from 1 contexts
  pub one_more : (context : ContextRecord) (outcome : AttachOutcome)
      → Legal (attaches contexts ++ Attach context ∷ [])
      (in_order (length contexts) ++ outcome ∷ [])
      → (outcome ≡ Full) ↔ (length contexts ≡ last_position)

-- `IsInOrder` holds for any contexts, at most 65534 of them
abbrev pub AttachesInOrder : Type 0
AttachesInOrder =
    (contexts : List ContextRecord) → length contexts ≤ last_position → IsInOrder contexts

-- 65534 attaches, the last given separately, and one more
abbrev pub filled : List ContextRecord → ContextRecord → ContextRecord → List StackEvent
filled contexts last x = attaches contexts ++ Attach last ∷ [] ++ Attach x ∷ []

-- the outcomes of `filled`: the last attach but one has position 65534, and the last is `Full`
abbrev pub filled_outcomes : List ContextRecord → List AttachOutcome
filled_outcomes contexts = in_order (length contexts) ++ Attached last_position ∷ [] ++ Full ∷ []

-- then the detaches of all but the last, and one more attach
abbrev pub emptied :
    List ContextRecord → ContextRecord → ContextRecord → ContextRecord → List StackEvent
emptied contexts last x y =
    filled contexts last x ++ detaches_below (length contexts) ++ Attach y ∷ []

-- then the detach of the last, and one more attach
abbrev pub begun_again :
    List ContextRecord → ContextRecord → ContextRecord → ContextRecord → ContextRecord
    → List StackEvent
begun_again contexts last x y z =
    emptied contexts last x y ++ Detach (length contexts) ∷ [] ++ Attach z ∷ []

-- The attach after 65534 is `Full` and changes nothing. With all but the last detached, the last
-- stays current and an attach is still `Full`. With the last detached too, nothing survives, and
-- the next attach has position 1.
pub record IsBegunAgain (contexts : List ContextRecord) (last x y z : ContextRecord) : Type 0 where
  pub legal : Legal (begun_again contexts last x y z)
      (filled_outcomes contexts ++ Full ∷ [] ++ Attached 1 ∷ [])
  pub full : survivors (filled contexts last x) (filled_outcomes contexts)
      ≡ enumerate_from 1 contexts ++ (last_position, last) ∷ []
  pub last_alone : survivors (emptied contexts last x y) (filled_outcomes contexts ++ Full ∷ [])
      ≡ (last_position, last) ∷ []
  pub none : survivors (emptied contexts last x y ++ Detach (length contexts) ∷ [])
      (filled_outcomes contexts ++ Full ∷ [])
      ≡ []
  pub first_again : survivors (begun_again contexts last x y z)
      (filled_outcomes contexts ++ Full ∷ [] ++ Attached 1 ∷ [])
      ≡ (1, z) ∷ []

-- `IsBegunAgain` holds for any contexts, 65533 of them before `last`
abbrev pub FilledAndBegunAgain : Type 0
FilledAndBegunAgain = (contexts : List ContextRecord) (last x y z : ContextRecord)
    → length contexts + 1 ≡ last_position → IsBegunAgain contexts last x y z
