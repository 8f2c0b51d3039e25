-- The trace state that a vendor sends.
use Rattle.std.specs.Prelude.{◌≡◌, ℕ, List, codes}
use Rattle.otel_ids.specs.Reading.{Reads}
use Rattle.otel_ids.specs.TraceState.{Pair, header, insert}

-- the header that is sent has the pairs of the received one, with `acme` and this value in front
abbrev pub PutsOwnFirst : List ℕ → List ℕ → List ℕ → Type 0
PutsOwnFirst received value sent =
    (pairs : List Pair) × Reads received pairs
    × (sent ≡ header (insert pairs (codes "acme") value))
