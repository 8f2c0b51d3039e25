-- How a queue is exported in batches, what an exporter says about its calls, and the state of an
-- in-memory exporter.
use Rattle.std.specs.Prelude.{◌≡◌, ℕ, zero, suc, ◌*◌, ◌-◌, ◌<◌, Bool, List, [], ◌∷◌, ◌++◌, take}
use Rattle.std.specs.Prelude.{drop}
use Rattle.std.specs.Prelude.{length, refl, Result, Ok, true, if◌then◌else◌, alloc_error, Option}
use Rattle.std.specs.Prelude.{None}
use Rattle.std.specs.List.{flat_map}
use Rattle.otel_sdk_base.specs.Losses as losses
use Rattle.otel_sdk_base.specs.Resource.{Parts}
use Rattle.otel_sdk_base.specs.declared.error.OTelSdkError.{OTelSdkError}
use Rattle.otel_sdk_base.specs.declared.error.OTelSdkError.TheVariants.{AlreadyShutdown, Memory}
use Rattle.otel_sdk_base.specs.declared.losses.Losses.{Losses}

-- the items of the batches, in order
abbrev pub items_of : {X : Type 0} → List (List X) → List X
items_of batches = flat_map (λ batch. batch) batches

-- the first `count` batches of a list: each has this size, except that the last one has the
-- remaining items; a, b, c in batches of 2 are [a, b] and [c]
abbrev pub batches : {X : Type 0} → ℕ → ℕ → List X → List (List X)
batches size zero xs = []
batches size (suc count) xs = take size xs ∷ batches size count (drop size xs)

-- the last `count` items of a list, or all of a shorter one
abbrev pub last_of : {X : Type 0} → ℕ → List X → List X
last_of count xs = drop (length xs - count) xs

-- The first batches of a queue were accepted, in order and each once. The items left in the queue
-- come after them.
pub record AreExported {X : Type 0} (size : ℕ) (queue : List X) (old new : List (List X))
    (left : List X) : Type 0 where
  -- how many batches
  pub count : ℕ
  -- none of them is empty
  pub filled : (k : ℕ) → k < count → k * size < length queue
  pub accepted : new ≡ old ++ batches size count queue
  pub rest : left ≡ drop (count * size) queue

-- The first batches of a queue were accepted, and then the exporter took this step.
pub record AreExportedUpTo {X E : Type 0} (accepted : E → List (List X)) (Step : E → E → Type 0)
    (size : ℕ) (queue left : List X) (old new : E) : Type 0 where
  -- the exporter before the step
  pub before : E
  pub exported : AreExported size queue (accepted old) (accepted before) left
  pub step : Step before new

-- What an exporter says about its calls. Each of the first four relates its states before and after.
pub record Calls (E : Type 0) : Type 1 where
  -- it refused a batch with this error
  pub refuses : E → OTelSdkError → E → Type 0
  -- it answered this to a flush
  pub flushes : E → Result (Unit {0}) OTelSdkError → E → Type 0
  -- it answered this to a shutdown
  pub shuts_down : E → Result (Unit {0}) OTelSdkError → E → Type 0
  -- it was told the resource of later items
  pub takes_resource : E → Parts → E → Type 0
  -- it answered these to the flushes so far, in order
  pub flushed : E → List (Result (Unit {0}) OTelSdkError) → Type 0
  -- how many of the accepted items the receiver doesn't have, by cause
  pub losses : E → Losses
  -- the receiver's last message
  pub last_message : E → Option (List ℕ)

-- it refused a batch with this error
abbrev pub refuses_with : {E : Type 0} → Calls E → OTelSdkError → E → E → Type 0
refuses_with calls error before after = calls.refuses before error after

-- any answer to any call, and no item is lost
abbrev pub any_calls : {E : Type 0} → Calls E
any_calls = record {
  refuses = λ _ _ _. Unit {0};
  flushes = λ _ _ _. Unit {0};
  shuts_down = λ _ _ _. Unit {0};
  takes_resource = λ _ _ _. Unit {0};
  flushed = λ _ _. Unit {0};
  losses = λ _. losses.none;
  last_message = λ _. None;
}

-- it was shut down, with some answer
abbrev pub WasShutDown : {E : Type 0} → Calls E → E → E → Type 0
WasShutDown calls before after =
    (answer : Result (Unit {0}) OTelSdkError) × calls.shuts_down before answer after

-- The state of an exporter that keeps items in memory: the batches that it accepted since it was
-- last emptied, and whether it was shut down (the Rust crate's `InMemorySpanExporter` and
-- `InMemoryLogExporter`).
pub record InMemory (X : Type 0) : Type 0 where
  pub accepted : List (List X)
  pub is_shut_down : Bool

-- It refuses a batch unchanged: with `AlreadyShutdown` if it was shut down, otherwise because
-- memory ran out. A flush does nothing, and a shutdown drops the items; both succeed. It ignores
-- resources, and loses no item.
abbrev pub in_memory_calls : {X : Type 0} → Calls (InMemory X)
in_memory_calls = record {
  refuses = λ old error new. (new ≡ old)
      × (error ≡ (if old.is_shut_down then AlreadyShutdown else Memory alloc_error));
  flushes = λ old answer new. (answer ≡ Ok tt) × (new ≡ old);
  shuts_down = λ _ answer new. (answer ≡ Ok tt)
      × (new ≡ record { accepted = []; is_shut_down = true });
  takes_resource = λ old _ new. new ≡ old;
  flushed = λ _ _. Unit {0};
  losses = λ _. losses.none;
  last_message = λ _. None;
}

-- ---- worked rows
batches_example : batches {X = ℕ} 2 2 (1 ∷ 2 ∷ 3 ∷ []) ≡ (1 ∷ 2 ∷ []) ∷ (3 ∷ []) ∷ []
batches_example = refl
