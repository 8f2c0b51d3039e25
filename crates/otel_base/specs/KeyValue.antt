-- Attributes.
use Rattle.std.specs.Prelude.{ℕ, List, map, Bool, nat_eq, ◌&&◌, ◌++◌}
use Rattle.std.specs.Cmp.Lexicographic.{pointwise}
use Rattle.std.specs.Hash as fed
use Rattle.std.specs.Hash.{HashWrites}
use Rattle.std.specs.List.{filter}
use Rattle.std.specs.Str.{bytes_eq}
use Rattle.otel_base.specs.Value as Value
use Rattle.otel_base.specs.Value.{AttributeValue}

-- a key with a value (the Rust crate's `KeyValue`)
abbrev pub Attribute : Type 0
Attribute = List ℕ × AttributeValue

-- whether key and value are the same (the Rust crate's `PartialEq` of `KeyValue`)
abbrev pub eq : Attribute → Attribute → Bool
eq p q = pointwise nat_eq p.0 q.0 && Value.eq p.1 q.1

-- the data fed to a hasher: the key, then the value without its type (the Rust crate's `Hash` of
-- `KeyValue`)
abbrev pub hash : Attribute → HashWrites
hash p = fed.str p.0 ++ Value.hash p.1

-- whether the attribute's key is k
abbrev pub has_key : List ℕ → Attribute → Bool
has_key k p = bytes_eq p.0 k

-- the values under a key, in the given order: for k=1, j=0, k=2 the values under k are 1, 2
abbrev pub values_under : List ℕ → List Attribute → List AttributeValue
values_under k ps = map (λ p. p.1) (filter (has_key k) ps)
