-- Laws of every value tree that is a map.
use Rattle.std.specs.Prelude.{◌≡◌, ℕ, List}
use Rattle.otel_base.specs.AnyValue.{Tree, IsMapOf, last_at}

-- two maps made of pairs that agree at each key are the same tree: of a=1, b=2 and of b=2, a=0, a=1
abbrev pub SameMap : Type 0
SameMap =
    (ps qs : List (List ℕ × Tree)) (s t : Tree) → IsMapOf ps s → IsMapOf qs t
    → ((k : List ℕ) → last_at k ps ≡ last_at k qs) → s ≡ t
