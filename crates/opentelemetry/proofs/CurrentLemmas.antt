-- The context of the last survivor is the one of the latest attach that survives.
use Rattle.std.proofs.Common.{◌≡◌, ℕ, zero, suc, ◌≤◌, List, [], ◌∷◌, Option, Some, None, refl, sym, ap, arith, inl, inr, ◌⊎◌}
use Rattle.std.specs.Prelude.{map}
use Rattle.std.specs.List.{filter_map, slice_get}
use Rattle.otel_context.specs.Context.{ContextRecord, empty_context}
use Rattle.otel_context.specs.Stack.{Live, last_or, current}
use Rattle.opentelemetry.specs.declared.carry.event.StackEvent.{StackEvent}
use Rattle.opentelemetry.specs.declared.carry.event.AttachOutcome.{AttachOutcome}
use Rattle.opentelemetry.specs.Run.{left_by, survivors, IsCurrent}
use Rattle.opentelemetry.proofs.SurvivorLemmas.{those}

abbrev Left : Type 0
Left = Option (ℕ × ContextRecord)

abbrev last_context : ContextRecord → List Left → ContextRecord
last_context base lefts = last_or base (map (λ a. a.1) (filter_map (λ left. left) lefts))

-- the last remaining attachment, if any remains
record IsLast (lefts : List Left) (context : ContextRecord) : Type 0 where
  number : ℕ
  position : ℕ
  at : slice_get lefts number ≡ Some (Some (position, context))
  latest : (other its_position : ℕ) (its : ContextRecord) → slice_get lefts other ≡ Some (Some (its_position, its)) → other ≤ number

record HasNone (lefts : List Left) (base context : ContextRecord) : Type 0 where
  none : (other its_position : ℕ) (its : ContextRecord) → slice_get lefts other ≡ Some (Some (its_position, its)) → ⊥
  same : context ≡ base

later : (x : Left) (lefts : List Left) (context : ContextRecord) → IsLast lefts context → IsLast (x ∷ lefts) context
later x lefts context l = record {
  number = suc l.number;
  position = l.position;
  at = l.at;
  latest = λ other its_position its. latest other its_position its;
} where
  latest : (other its_position : ℕ) (its : ContextRecord) → slice_get (x ∷ lefts) other ≡ Some (Some (its_position, its)) → other ≤ suc l.number
  latest zero its_position its e = omega arith
  latest (suc other) its_position its e = omega (arith, l.latest other its_position its e)

last_of : (base : ContextRecord) (lefts : List Left) → IsLast lefts (last_context base lefts) ⊎ HasNone lefts base (last_context base lefts)
last_of base [] = inr (record { none = λ other its_position its e. cc; same = refl })
last_of base (None ∷ lefts) = elim (last_of base lefts) [
  | inl l ↦ inl (later None lefts (last_context base lefts) l)
  | inr n ↦ inr (record { none = none n.none; same = n.same })
] where
  none : ((other its_position : ℕ) (its : ContextRecord) → slice_get lefts other ≡ Some (Some (its_position, its)) → ⊥)
      → (other its_position : ℕ) (its : ContextRecord) → slice_get (None ∷ lefts) other ≡ Some (Some (its_position, its)) → ⊥
  none h zero its_position its e = cc
  none h (suc other) its_position its e = h other its_position its e
last_of base (Some a ∷ lefts) = elim (last_of a.1 lefts) [
  | inl l ↦ inl (later (Some a) lefts (last_context a.1 lefts) l)
  | inr n ↦ inl (record { number = 0; position = a.0; at = ap (λ c. Some (Some (a.0, c))) (sym n.same); latest = first n.none })
] where
  first : ((other its_position : ℕ) (its : ContextRecord) → slice_get lefts other ≡ Some (Some (its_position, its)) → ⊥)
      → (other its_position : ℕ) (its : ContextRecord) → slice_get (Some a ∷ lefts) other ≡ Some (Some (its_position, its)) → other ≤ 0
  first h zero its_position its e = omega arith
  first h (suc other) its_position its e = absurd (h other its_position its e)

pub is_current : (events : List StackEvent) (outcomes : List AttachOutcome) → IsCurrent events outcomes (current (survivors events outcomes))
is_current events outcomes = elim (last_of empty_context (left_by 0 events outcomes)) [
  | inl l ↦ inl (record {
    number = l.number;
    position = l.position;
    survives = (those events outcomes l.number l.position (current (survivors events outcomes))).0 l.at;
    latest = λ other its_position its s. l.latest other its_position its ((those events outcomes other its_position its).1 s);
  })
  | inr n ↦ inr (record {
    none = λ other its_position its s. n.none other its_position its ((those events outcomes other its_position its).1 s);
    empty = n.same;
  })
]

-- the same for the live attachments, if they are the survivors
pub current_is : (events : List StackEvent) (outcomes : List AttachOutcome) (live : Live) → live ≡ survivors events outcomes → IsCurrent events outcomes (current live)
current_is events outcomes live is = rw is (is_current events outcomes)
