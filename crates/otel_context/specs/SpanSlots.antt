-- The slots of a span table: what the private calls on them change and lend. No public contract
-- cites this file.
use Rattle.std.specs.Prelude.{◌≡◌, ℕ, ◌+◌, ◌-◌, ◌<◌, List, Option, Some, None, Vec, length}
use Rattle.std.specs.Prelude.{slice_index_or, slice_set}
use Rattle.std.specs.Borrow.{LendsSo, Fml, RattleType, MutBor}
use Rattle.std.specs.List.{HoldsAt, SwappedAt}
use Rattle.std.specs.Option.{OnSome}
use Rattle.std.specs.declared.alloc.Global.{Global}
use Rattle.std.specs.contracts.alloc.Global as global
use Rattle.std.specs.contracts.vec.Vec as vec
use Rattle.std.specs.contracts.impls.GlobalAllocator.TheImpl.{ghosts}
use Rattle.otel_context.specs.SpanPlaces.{MovesTo}
use Rattle.otel_context.specs.contracts.span.spans.Slot.{the_row}
use Rattle.otel_context.specs.declared.span.spans.Slot.{Slot}
use Rattle.otel_context.specs.declared.span.spans.places.Place.{Place}

module _ {S : Type 0} where
  -- the span of the slot, if it is one
  abbrev pub IsSpanOf : List (Slot S) → Option ℕ → Option S → Type 0
  IsSpanOf slots None span = span ≡ None
  IsSpanOf slots (Some slot) span = HoldsAt (λ s. span ≡ Some s.span) slots slot

  -- the slots have the same numbers
  pub record KeepsNumbers (before after : List (Slot S)) : Type 0 where
    pub count : length after ≡ length before
    pub same : (k : ℕ) (d : Slot S) → k < length before
        → (slice_index_or after k d).number ≡ (slice_index_or before k d).number

  -- the slot has this span, and the others theirs
  abbrev pub Replaces : List (Slot S) → Option ℕ → S → List (Slot S) → Type 0
  Replaces before None span after = after ≡ before
  Replaces before (Some slot) span after =
      HoldsAt (λ s. after ≡ slice_set before slot (record s { span = span })) before slot

  -- slots and places after a call that moves the slot to the end, and the last one to where it was
  pub record BringsLast (before : List (Slot S)) (places : List Place) (slot : ℕ)
      (after : List (Slot S)) (left : List Place) : Type 0 where
    pub last : (slot + 1 < length before → ⊥) → (after ≡ before) × (left ≡ places)
    pub count : length after ≡ length before
    pub swapped : slot + 1 < length before → SwappedAt before after slot (length before - 1)
    pub moved : slot + 1 < length before
        → HoldsAt (λ s. MovesTo places s.number slot left) before (length before - 1)

-- once the borrow ends, the slot has the span left behind it; for `None` it is unchanged
abbrev pub LendsOwn : (S : RattleType) → MutBor (Slot S.Denot) → Option (MutBor S.Denot) → Fml
LendsOwn S slot lent = LendsSo (the_row S) S slot lent
    (λ after span. (after.number ≡ slot.now.number) × OnSome lent (after.span ≡ span))
    (λ after. after ≡ slot.now)

-- the same for the slots
abbrev pub LendsSlot : (S : RattleType) → MutBor (Vec (Slot S.Denot) Global) → Option ℕ
    → Option (MutBor S.Denot) → Fml
LendsSlot S slots slot lent = LendsSo (vec.the_row (the_row S) global.the_row ghosts) S slots lent
    (λ after span. KeepsNumbers slots.now.items after.items
    × OnSome lent (Replaces slots.now.items slot span after.items))
    (λ after. after.items ≡ slots.now.items)
