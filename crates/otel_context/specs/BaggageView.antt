-- Members of a baggage, from the pairs that hold them.
use Rattle.std.specs.Prelude.{ℕ, List, map}
use Rattle.std.specs.Borrow.{Bor}
use Rattle.std.specs.Map.Iter.{deref_pair}
use Rattle.otel_context.specs.BaggageMember.{Member, member_of}

-- A key, and its value with metadata.
abbrev pub Entry : Type 0
Entry = List ℕ × (List ℕ × List ℕ)

-- The member held by such a pair.
abbrev pub entry_member : Entry → Member
entry_member e = member_of e.0 e.1.0 e.1.1

-- The members held by a map's pairs, in order.
abbrev pub entry_members : List Entry → List Member
entry_members es = map entry_member es

-- The pair that a pair of references refers to.
abbrev pub lent_entry : Bor (List ℕ) × Bor (List ℕ × List ℕ) → Entry
lent_entry p = deref_pair p

-- The member that a pair of references refers to.
abbrev pub lent_member : Bor (List ℕ) × Bor (List ℕ × List ℕ) → Member
lent_member p = entry_member (lent_entry p)
