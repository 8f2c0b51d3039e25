-- Setting many members of a context's baggage at once.
use Rattle.std.specs.Prelude.{◌≡◌, ◌⊎◌, ℕ, true, List, [], ◌∷◌, map, take, Option, Some, slice_get}
use Rattle.http_header.specs.FieldValue.{is_visible_text}
use Rattle.otel_context.specs.Baggage.{accepts, put}
use Rattle.otel_context.specs.BaggageMember.{Member}
use Rattle.otel_context.specs.Context.{ContextRecord, with_baggage}
use Rattle.otel_propagators.specs.BaggagePropagator.{members}
use Rattle.otel_c.specs.declared.many.MemberTexts.{MemberTexts}
use Rattle.otel_c.specs.declared.object.Object.{Object}
use Rattle.otel_c.specs.declared.status.Status.{Status}
use Rattle.otel_c.specs.Object.{context_of}
use Rattle.otel_c.specs.Context.{CopyRefused}
use Rattle.otel_c.specs.Member.{given_member, AreNoTexts, PutRefused}
use Rattle.otel_c.specs.Status.{IsOutOfMemory}

-- the member of the texts, whose metadata is trimmed
abbrev pub given_of : MemberTexts → Member
given_of given = given_member given.key.now given.value.now given.metadata.now

-- the second list is the first with the member, which it accepts and headers can carry
pub record Puts (m : Member) (held new : List Member) : Type 0 where
  pub sendable : is_visible_text m.metadata ≡ true
  pub accepted : accepts held m ≡ true
  pub is : new ≡ put held m

-- the second list is the first with each of the members put in turn
abbrev pub PutsAll : List Member → List Member → List Member → Type 0
PutsAll held [] new = new ≡ held
PutsAll held (m ∷ ms) new =
    (is_visible_text m.metadata ≡ true) × (accepts held m ≡ true) × PutsAll (put held m) ms new

-- why the member of the texts wasn't put into the baggage
abbrev pub GiveRefused : MemberTexts → List Member → Status → Type 0
GiveRefused given held s =
    AreNoTexts given.key.now given.value.now given.metadata.now s
    ⊎ PutRefused (given_of given) held s

-- the members before the position were put in turn, and the one there wasn't, for that reason
pub record FaultAt (held : List Member) (given : List MemberTexts) (at : ℕ) (s : Status)
    : Type 0 where
  pub before : List Member
  pub puts : PutsAll held (map given_of (take at given)) before
  pub member : MemberTexts
  pub is : slice_get given at ≡ Some member
  pub why : GiveRefused member before s

-- why not all were put into the baggage
abbrev pub PutAllRefused : List Member → List MemberTexts → ℕ → Status → Type 0
PutAllRefused held given at s = IsOutOfMemory s ⊎ FaultAt held given at s

-- the second context is the first with each of the members put into its baggage in turn
pub record SetsAll (ms : List Member) (before after : ContextRecord) : Type 0 where
  pub baggage : List Member
  pub puts : PutsAll (members before) ms baggage
  pub is : after ≡ with_baggage before baggage

-- the members weren't all put into the baggage of the object's context, for that reason
pub record SetsNotAll (given : List MemberTexts) (object : Option Object) (at : ℕ) (s : Status)
    : Type 0 where
  pub context : ContextRecord
  pub from : context_of object ≡ Some context
  pub why : PutAllRefused (members context) given at s

-- why no members were set
abbrev pub SetAllRefused : List MemberTexts → Option Object → ℕ → Status → Type 0
SetAllRefused given object at s = CopyRefused object s ⊎ SetsNotAll given object at s
