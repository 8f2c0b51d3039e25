-- Value trees: an integer, a text, a boolean, a list of bytes, a list of trees, or a finite map
-- from texts to trees (the Rust crate's `AnyValue`).
use Rattle.std.specs.Prelude.{◌≡◌, ℕ, ℤ, List, [], ◌∷◌, Bool, true, false, ◌&&◌, nat_eq, Option}
use Rattle.std.specs.Prelude.{Some, None, if◌then◌else◌}
use Rattle.std.specs.Ordering.{nat_cmp, int_eq, match_ordering}
use Rattle.std.specs.List.Sorted.{IsStrictlySortedBy}
use Rattle.std.specs.Option.{option_or}
use Rattle.std.specs.Str.{bytes_eq}
use Rattle.std.proofs.Math.Bool.{beq}
use Rattle.std.specs.Cmp.Lexicographic.{slice_cmp, pointwise}

mutual
  -- a value tree: an empty `list` and an empty `text` are different trees
  pub data Tree : Type 0 where
    integer : ℤ → Tree
    text : List ℕ → Tree
    boolean : Bool → Tree
    bytes : List ℕ → Tree
    list : Trees → Tree
    map : Entries → Tree

  -- trees, in order
  pub data Trees : Type 0 where
    no_trees : Trees
    more_trees : Tree → Trees → Trees

  -- trees under keys; the entries of a map are in the order of the keys
  pub data Entries : Type 0 where
    no_entries : Entries
    more_entries : List ℕ → Tree → Entries → Entries

-- the tree at a key, if there is one
abbrev pub entry_at : List ℕ → Entries → Option Tree
entry_at k no_entries = None
entry_at k (more_entries l e es) =
    match_ordering (slice_cmp nat_cmp k l) (entry_at k es) (Some e) (entry_at k es)

-- the keys, in order
abbrev pub keys_of_entries : Entries → List (List ℕ)
keys_of_entries no_entries = []
keys_of_entries (more_entries k e es) = k ∷ keys_of_entries es

-- the tree of the last pair with a key, if there is one: for a=1, b=2, a=3 it is 3 at a
abbrev pub last_at : List ℕ → List (List ℕ × Tree) → Option Tree
last_at k [] = None
last_at k (p ∷ ps) = option_or (last_at k ps) (if bytes_eq p.0 k then Some p.1 else None)

-- t is the map that has at each key the tree of its last pair (the Rust crate's `FromIterator` of
-- `AnyValue`): a=1, b=2, a=3 makes the map of a to 3 and b to 2
pub record IsMapOf (pairs : List (List ℕ × Tree)) (t : Tree) : Type 0 where
  pub entries : Entries
  pub is : t ≡ map entries
  pub rising : IsStrictlySortedBy (slice_cmp nat_cmp) (keys_of_entries entries)
  pub last_wins : (k : List ℕ) → entry_at k entries ≡ last_at k pairs

-- ---- the equality as a test
abbrev mutual
  -- the same case and the same content (the Rust crate's `PartialEq` of `AnyValue`)
  pub eq : Tree → Tree → Bool
  eq (integer x) (integer y) = int_eq x y
  eq (text x) (text y) = pointwise nat_eq x y
  eq (boolean x) (boolean y) = beq x y
  eq (bytes x) (bytes y) = pointwise nat_eq x y
  eq (list x) (list y) = trees_eq x y
  eq (map x) (map y) = entries_eq x y
  eq _ _ = false

  -- the same trees in order
  pub trees_eq : Trees → Trees → Bool
  trees_eq no_trees no_trees = true
  trees_eq (more_trees x xs) (more_trees y ys) = eq x y && trees_eq xs ys
  trees_eq _ _ = false

  -- the same keys with the same trees
  pub entries_eq : Entries → Entries → Bool
  entries_eq no_entries no_entries = true
  entries_eq (more_entries j x xs) (more_entries k y ys) =
      pointwise nat_eq j k && eq x y && entries_eq xs ys
  entries_eq _ _ = false
