-- The results of the calls on the text of a `tracestate` header.
use Rattle.std.specs.Prelude.{◌≡◌, ◌⊎◌, ℕ, List, None, Some, Option, option_map, slice_get}
use Rattle.otel_ids.specs.TraceState.{Pair, pair_with, get, insert, delete, header}
use Rattle.otel_ids.specs.TraceStateError.{key_fault, pair_fault}
use Rattle.otel_ids.specs.Reading.{Reads, fault_of}
use Rattle.otel_c.specs.declared.status.Status.{Status}
use Rattle.otel_c.specs.declared.status.Status.TheVariants as status
use Rattle.otel_c.specs.Status.{IsNoText, Blames}
use Rattle.otel_c.specs.Room.{Holds, IsLong, HoldsFound, FoundRefused}

-- the room holds the value that the trace state has at the key
pub record Gets (received key old new : List ℕ) (written : ℕ) : Type 0 where
  pub pairs : List Pair
  pub value : List ℕ
  pub reads : Reads received pairs
  pub found : get pairs key ≡ Some value
  pub holds : Holds value old new written

-- the room holds the header of the trace state with the pair in front
pub record Inserts (received key value old new : List ℕ) (written : ℕ) : Type 0 where
  pub pairs : List Pair
  pub reads : Reads received pairs
  pub holds : Holds (header (insert pairs key value)) old new written

-- the room holds the header of the trace state without the pair of the key
pub record Deletes (received key old new : List ℕ) (written : ℕ) : Type 0 where
  pub pairs : List Pair
  pub reads : Reads received pairs
  pub holds : Holds (header (delete pairs key)) old new written

-- the key of the pair at the position, from 0 on
abbrev pub key_at : List Pair → ℕ → Option (List ℕ)
key_at pairs position = option_map (λ p. p.key) (slice_get pairs position)

-- the room holds the key that the trace state has at the position
pub record GetsKey (received : List ℕ) (position : ℕ) (old new : List ℕ) (written : ℕ)
    : Type 0 where
  pub pairs : List Pair
  pub reads : Reads received pairs
  pub found : HoldsFound (key_at pairs position) old new written

-- ---- refusals

-- why a header wasn't read: it isn't UTF-8, or has a fault
abbrev pub ReadRefused : List ℕ → Status → Type 0
ReadRefused received s = IsNoText received s ⊎ Blames (fault_of received) s

-- no pair of the trace state has the key, and the status says so
pub record IsAbsent (received key : List ℕ) (s : Status) : Type 0 where
  pub pairs : List Pair
  pub reads : Reads received pairs
  pub none : get pairs key ≡ None
  pub status : s ≡ status.Absent

-- the value of the key is longer than the room
pub record GetIsLong (received key old : List ℕ) (written : ℕ) (s : Status) : Type 0 where
  pub pairs : List Pair
  pub value : List ℕ
  pub reads : Reads received pairs
  pub found : get pairs key ≡ Some value
  pub long : IsLong value old written s

-- the header with the pair in front is longer than the room
pub record InsertIsLong (received key value old : List ℕ) (written : ℕ) (s : Status) : Type 0 where
  pub pairs : List Pair
  pub reads : Reads received pairs
  pub long : IsLong (header (insert pairs key value)) old written s

-- the header without the pair of the key is longer than the room
pub record DeleteIsLong (received key old : List ℕ) (written : ℕ) (s : Status) : Type 0 where
  pub pairs : List Pair
  pub reads : Reads received pairs
  pub long : IsLong (header (delete pairs key)) old written s

-- why a value wasn't written
abbrev pub GetRefused : List ℕ → List ℕ → List ℕ → ℕ → Status → Type 0
GetRefused received key old written s =
    (ReadRefused received s ⊎ IsNoText key s)
    ⊎ (IsAbsent received key s ⊎ GetIsLong received key old written s)

-- why a pair wasn't inserted
abbrev pub InsertRefused : List ℕ → List ℕ → List ℕ → List ℕ → ℕ → Status → Type 0
InsertRefused received key value old written s =
    (ReadRefused received s ⊎ (IsNoText key s ⊎ IsNoText value s))
    ⊎ (Blames (pair_fault (pair_with key value)) s
    ⊎ InsertIsLong received key value old written s)

-- why a pair wasn't deleted
abbrev pub DeleteRefused : List ℕ → List ℕ → List ℕ → ℕ → Status → Type 0
DeleteRefused received key old written s =
    (ReadRefused received s ⊎ IsNoText key s)
    ⊎ (Blames (key_fault key) s ⊎ DeleteIsLong received key old written s)

-- the key at the position wasn't written, for that reason
pub record GetsNoKey (received : List ℕ) (position : ℕ) (old : List ℕ) (written : ℕ) (s : Status)
    : Type 0 where
  pub pairs : List Pair
  pub reads : Reads received pairs
  pub why : FoundRefused (key_at pairs position) old written s

-- why no key was written
abbrev pub KeyRefused : List ℕ → ℕ → List ℕ → ℕ → Status → Type 0
KeyRefused received position old written s =
    ReadRefused received s ⊎ GetsNoKey received position old written s
