-- The places of a span table: what the private calls on them find and change. No public contract
-- cites this file.
use Rattle.std.specs.Prelude.{◌≡◌, ℕ, ◌<◌, List, Option, Some, None, IsSome, length}
use Rattle.std.specs.List.{HoldsAt}
use Rattle.std.specs.FinMap.{get, insert, remove}
use Rattle.otel_context.specs.View.{map_of, IsAscending}
use Rattle.otel_context.specs.declared.span.spans.places.Place.{Place}

-- ascending places have this slot, or none, for the number
abbrev pub Finds : List Place → ℕ → Option ℕ → Type 0
Finds places number slot =
    (next : ℕ) → IsAscending 0 places next → get (map_of places) number ≡ slot

-- an index is that of a place with the number; for `None` the number has no slot
abbrev pub IsIndexOf : List Place → ℕ → Option ℕ → Type 0
IsIndexOf places number None = Finds places number None
IsIndexOf places number (Some index) =
    (index < length places) × HoldsAt (λ place. place.number ≡ number) places index

-- ascending places stay so
abbrev pub StaysAscending : List Place → List Place → Type 0
StaysAscending before after =
    (next : ℕ) → IsAscending 0 before next → IsAscending 0 after next

-- ascending places stay so, and each number has its slot
pub record KeepsPlaces (before after : List Place) : Type 0 where
  pub ascends : StaysAscending before after
  pub same : map_of after ≡ map_of before

-- ascending places stay so, and the number has this slot if it had one
pub record MovesTo (before : List Place) (number slot : ℕ) (after : List Place) : Type 0 where
  pub ascends : StaysAscending before after
  pub moved : (next : ℕ) → IsAscending 0 before next → IsSome (get (map_of before) number)
      → map_of after ≡ insert (map_of before) number slot

-- places after a call that takes out the number, if it has a slot
pub record TakesOut (before : List Place) (number : ℕ) (out : Option ℕ)
    (after : List Place) : Type 0 where
  pub value : Finds before number out
  pub ascends : StaysAscending before after
  pub removed : (next : ℕ) → IsAscending 0 before next
      → map_of after ≡ remove (map_of before) number
