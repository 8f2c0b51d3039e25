-- The effects of setting and removing a member of a context's baggage.
use Rattle.std.specs.Prelude.{◌≡◌, ◌⊎◌, Bool, true, false, ℕ, List, [], Option, Some, if◌then◌else◌}
use Rattle.std.specs.Str.{trim}
use Rattle.http_header.specs.FieldValue.{is_visible_text}
use Rattle.otel_context.specs.Baggage.{accepts, put, remove}
use Rattle.otel_context.specs.BaggageMember.{Member, member_of}
use Rattle.otel_context.specs.Context.{ContextRecord, with_baggage, with_cleared_baggage}
use Rattle.otel_propagators.specs.BaggagePropagator.{members}
use Rattle.otel_c.specs.declared.object.Object.{Object}
use Rattle.otel_c.specs.declared.status.Status.{Status}
use Rattle.otel_c.specs.declared.status.Status.TheVariants as status
use Rattle.otel_c.specs.Object.{context_of}
use Rattle.otel_c.specs.Context.{CopyRefused}
use Rattle.otel_c.specs.Status.{IsNoText, IsOutOfMemory, IsUnsendable}

-- the member of three texts, whose metadata is trimmed
abbrev pub given_member : List ℕ → List ℕ → List ℕ → Member
given_member key value metadata = member_of key value (trim metadata)

-- the second context is the first with the member in its baggage, which accepts it; headers can
-- carry its metadata, as they can its key and its escaped value
pub record SetsMember (m : Member) (before after : ContextRecord) : Type 0 where
  pub sendable : is_visible_text m.metadata ≡ true
  pub accepted : accepts (members before) m ≡ true
  pub is : after ≡ with_baggage before (put (members before) m)

-- the second context is the first without the member of the key
abbrev pub RemovesMember : List ℕ → ContextRecord → ContextRecord → Type 0
RemovesMember key before after = after ≡ with_baggage before (remove (members before) key)

-- the second context is the first without a baggage
abbrev pub ClearsBaggage : ContextRecord → ContextRecord → Type 0
ClearsBaggage before after = after ≡ with_cleared_baggage before

-- the context is made from the object's context
pub record GivesFrom (Made : ContextRecord → ContextRecord → Type 0) (object : Option Object)
    (given : ContextRecord) : Type 0 where
  pub context : ContextRecord
  pub from : context_of object ≡ Some context
  pub is : Made context given

-- the new object holds the context made from the other object's context
pub record Makes (Made : ContextRecord → ContextRecord → Type 0) (object new : Option Object)
    : Type 0 where
  pub context : ContextRecord
  pub given : GivesFrom Made object context
  pub into : context_of new ≡ Some context

-- ---- refusals

-- whether a baggage can have the key: the empty one accepts it
abbrev pub may_be_key : List ℕ → Bool
may_be_key key = accepts [] (member_of key [] [])

-- why a baggage refuses a member of the key
abbrev pub reason : List ℕ → Status
reason key = if may_be_key key then status.Refused else status.Key

-- the status says that no baggage can have the key, and none can
pub record IsNoKey (key : List ℕ) (s : Status) : Type 0 where
  pub status : s ≡ status.Key
  pub is : may_be_key key ≡ false

-- the status says that the member is too large for the baggage, and it is
pub record IsTooMuch (m : Member) (held : List Member) (s : Status) : Type 0 where
  pub status : s ≡ status.Refused
  pub key : may_be_key m.key ≡ true
  pub is : accepts held m ≡ false

-- why the member wasn't put into the baggage
abbrev pub PutRefused : Member → List Member → Status → Type 0
PutRefused m held s =
    (IsOutOfMemory s ⊎ IsUnsendable m.metadata s) ⊎ (IsNoKey m.key s ⊎ IsTooMuch m held s)

-- the member wasn't put into the baggage of the object's context, for that reason
pub record PutsNone (m : Member) (object : Option Object) (s : Status) : Type 0 where
  pub context : ContextRecord
  pub from : context_of object ≡ Some context
  pub why : PutRefused m (members context) s

-- one of the three texts isn't UTF-8
abbrev pub AreNoTexts : List ℕ → List ℕ → List ℕ → Status → Type 0
AreNoTexts key value metadata s = IsNoText key s ⊎ (IsNoText value s ⊎ IsNoText metadata s)

-- why no member was set
abbrev pub SetRefused : List ℕ → List ℕ → List ℕ → Option Object → Status → Type 0
SetRefused key value metadata object s =
    CopyRefused object s
    ⊎ (AreNoTexts key value metadata s ⊎ PutsNone (given_member key value metadata) object s)

-- why no member was removed
abbrev pub RemoveRefused : List ℕ → Option Object → Status → Type 0
RemoveRefused key object s = CopyRefused object s ⊎ IsNoText key s
