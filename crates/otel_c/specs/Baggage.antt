-- The results of the calls on the baggage of a context.
use Rattle.std.specs.Prelude.{◌≡◌, ◌⊎◌, ℕ, List, length, Option, Some, option_map, slice_get}
use Rattle.otel_context.specs.Baggage.{get, member_at}
use Rattle.otel_context.specs.BaggageHeader.{header}
use Rattle.otel_context.specs.Context.{ContextRecord}
use Rattle.otel_propagators.specs.BaggagePropagator.{members}
use Rattle.otel_c.specs.declared.object.Object.{Object}
use Rattle.otel_c.specs.declared.status.Status.{Status}
use Rattle.otel_c.specs.Object.{context_of}
use Rattle.otel_c.specs.Context.{CopyRefused}
use Rattle.otel_c.specs.Room.{HoldsFound, FoundRefused}
use Rattle.otel_c.specs.Status.{IsNoText}

-- the key of the member at the position, from 0 on
abbrev pub key_at : ContextRecord → ℕ → Option (List ℕ)
key_at context position = option_map (λ m. m.key) (slice_get (members context) position)

-- the value of the member with the key
abbrev pub value_of : ContextRecord → List ℕ → Option (List ℕ)
value_of context key = get (members context) key

-- the metadata of the member with the key
abbrev pub metadata_of : ContextRecord → List ℕ → Option (List ℕ)
metadata_of context key = option_map (λ m. m.metadata) (member_at (members context) key)

-- the header of the baggage, which is there even without members
abbrev pub header_of : ContextRecord → Option (List ℕ)
header_of context = Some (header (members context))

-- the number is the number of the context's members
pub record Counts (object : Option Object) (new : ℕ) : Type 0 where
  pub context : ContextRecord
  pub from : context_of object ≡ Some context
  pub number : new ≡ length (members context)

-- the room holds the text that is found in the context
pub record Shows (look : ContextRecord → Option (List ℕ)) (object : Option Object)
    (old new : List ℕ) (written : ℕ) : Type 0 where
  pub context : ContextRecord
  pub from : context_of object ≡ Some context
  pub found : HoldsFound (look context) old new written

-- the text wasn't written, for that reason
pub record ShowsNone (look : ContextRecord → Option (List ℕ)) (object : Option Object)
    (old : List ℕ) (written : ℕ) (s : Status) : Type 0 where
  pub context : ContextRecord
  pub from : context_of object ≡ Some context
  pub why : FoundRefused (look context) old written s

-- why the text at a position wasn't written
abbrev pub ShowRefused :
    (ContextRecord → Option (List ℕ)) → Option Object → List ℕ → ℕ → Status → Type 0
ShowRefused look object old written s = CopyRefused object s ⊎ ShowsNone look object old written s

-- why the text of a key wasn't written
abbrev pub NamedRefused :
    (ContextRecord → Option (List ℕ)) → List ℕ → Option Object → List ℕ → ℕ → Status → Type 0
NamedRefused look key object old written s =
    IsNoText key s ⊎ ShowRefused look object old written s
