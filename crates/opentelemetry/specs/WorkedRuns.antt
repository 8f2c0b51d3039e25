-- Runs worked by hand, for any contexts: the results of the definitions of a run for their events.
-- Not in the Rust crate.
use Rattle.std.specs.Prelude.{◌≡◌, List, [], ◌∷◌, take}
use Rattle.otel_context.specs.Context.{ContextRecord, empty_context}
use Rattle.otel_context.specs.Stack.{current}
use Rattle.opentelemetry.specs.declared.carry.event.StackEvent.{StackEvent}
use Rattle.opentelemetry.specs.declared.carry.event.StackEvent.TheVariants.{Attach, Detach}
use Rattle.opentelemetry.specs.declared.carry.event.AttachOutcome.{AttachOutcome}
use Rattle.opentelemetry.specs.declared.carry.event.AttachOutcome.TheVariants.{Attached}
use Rattle.opentelemetry.specs.Run.{survivors, Legal}

-- attach a, b, c; detach 1; detach 2; attach d
abbrev pub three_and_one :
    ContextRecord → ContextRecord → ContextRecord → ContextRecord → List StackEvent
three_and_one a b c d = Attach a ∷ Attach b ∷ Attach c ∷ Detach 1 ∷ Detach 2 ∷ Attach d ∷ []

-- the outcomes of `three_and_one`: d gets the position that b had
abbrev pub their_outcomes : List AttachOutcome
their_outcomes = Attached 1 ∷ Attached 2 ∷ Attached 3 ∷ Attached 2 ∷ []

-- For `three_and_one`: c is current after the first detach, then a, then d, which has the position
-- that b had.
pub record IsThreeAndOne (a b c d : ContextRecord) : Type 0 where
  pub legal : Legal (three_and_one a b c d) their_outcomes
  pub first_detach : survivors (take 4 (three_and_one a b c d)) their_outcomes
      ≡ (1, a) ∷ (3, c) ∷ []
  pub second_detach : survivors (take 5 (three_and_one a b c d)) their_outcomes ≡ (1, a) ∷ []
  pub all : survivors (three_and_one a b c d) their_outcomes ≡ (1, a) ∷ (2, d) ∷ []
  pub current : current (survivors (three_and_one a b c d) their_outcomes) ≡ d

-- attach a, b, c; detach 1; detach 2; attach d; detach 1 once more
abbrev pub detached_again :
    ContextRecord → ContextRecord → ContextRecord → ContextRecord → List StackEvent
detached_again a b c d =
    Attach a ∷ Attach b ∷ Attach c ∷ Detach 1 ∷ Detach 2 ∷ Attach d ∷ Detach 1 ∷ []

-- For `detached_again`: the last detach changes nothing, although d has the position that b had.
pub record IsDetachedAgain (a b c d : ContextRecord) : Type 0 where
  pub legal : Legal (detached_again a b c d) their_outcomes
  pub all : survivors (detached_again a b c d) their_outcomes ≡ (1, a) ∷ (2, d) ∷ []
  pub current : current (survivors (detached_again a b c d) their_outcomes) ≡ d

-- A detach of a number that isn't attached yet changes nothing, then or later.
pub record IsDetachedBefore (a : ContextRecord) : Type 0 where
  pub legal_alone : Legal (Detach 0 ∷ []) []
  pub alone : survivors (Detach 0 ∷ []) [] ≡ []
  pub base : current (survivors (Detach 0 ∷ []) []) ≡ empty_context
  pub legal : Legal (Detach 0 ∷ Attach a ∷ []) (Attached 1 ∷ [])
  pub all : survivors (Detach 0 ∷ Attach a ∷ []) (Attached 1 ∷ []) ≡ (1, a) ∷ []
  pub current : current (survivors (Detach 0 ∷ Attach a ∷ []) (Attached 1 ∷ [])) ≡ a

-- attach a, b; detach 0; detach 1
abbrev pub oldest_first : ContextRecord → ContextRecord → List StackEvent
oldest_first a b = Attach a ∷ Attach b ∷ Detach 0 ∷ Detach 1 ∷ []

-- For `oldest_first`: b stays current after the first detach, and the base is current after the
-- second.
pub record IsOldestFirst (a b : ContextRecord) : Type 0 where
  pub legal : Legal (oldest_first a b) (Attached 1 ∷ Attached 2 ∷ [])
  pub first_detach : survivors (take 3 (oldest_first a b)) (Attached 1 ∷ Attached 2 ∷ [])
      ≡ (2, b) ∷ []
  pub still_current :
      current (survivors (take 3 (oldest_first a b)) (Attached 1 ∷ Attached 2 ∷ [])) ≡ b
  pub all : survivors (oldest_first a b) (Attached 1 ∷ Attached 2 ∷ []) ≡ []
  pub base : current (survivors (oldest_first a b) (Attached 1 ∷ Attached 2 ∷ [])) ≡ empty_context

-- `IsThreeAndOne` holds for any contexts
abbrev pub ThreeAndOne : Type 0
ThreeAndOne = (a b c d : ContextRecord) → IsThreeAndOne a b c d

-- `IsDetachedAgain` holds for any contexts
abbrev pub DetachedAgain : Type 0
DetachedAgain = (a b c d : ContextRecord) → IsDetachedAgain a b c d

-- `IsDetachedBefore` holds for any context
abbrev pub DetachedBefore : Type 0
DetachedBefore = (a : ContextRecord) → IsDetachedBefore a

-- `IsOldestFirst` holds for any contexts
abbrev pub OldestFirst : Type 0
OldestFirst = (a b : ContextRecord) → IsOldestFirst a b
