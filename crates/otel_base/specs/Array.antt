-- Arrays of attributes: their meaning, their printed text and the data fed to a hasher.
use Rattle.std.specs.Prelude.{ℕ, zero, suc, ℤ, List, [], ◌∷◌, ◌++◌, map, Bool, false, nat_eq, codes}
use Rattle.std.specs.Prelude.{if◌then◌else◌}
use Rattle.std.specs.Fmt.{signed_decimal}
use Rattle.std.specs.List.{join_with_byte}
use Rattle.std.specs.Ordering.{int_eq}
use Rattle.std.specs.Cmp.Lexicographic.{pointwise}
use Rattle.std.specs.Hash as fed
use Rattle.std.specs.Hash.{HashWrites}
use Rattle.std.proofs.Math.Bool.{beq}

-- the items, with their type (the Rust crate's `Array`): `booleans []` isn't `texts []`
pub data ArrayValue : Type 0 where
  booleans : List Bool → ArrayValue
  integers : List ℤ → ArrayValue
  texts : List (List ℕ) → ArrayValue

-- `true` or `false` (the Rust crate's `Display` of `Value`)
abbrev pub boolean_text : Bool → List ℕ
boolean_text b = if b then codes "true" else codes "false"

-- the text between two `"`, with nothing escaped (the Rust crate's `Display` of `Array`): a"b is
-- printed as "a"b"
abbrev pub quoted : List ℕ → List ℕ
quoted s = 34 ∷ s ++ 34 ∷ []

-- the text of each item (the Rust crate's `Display` of `Array`)
abbrev pub item_texts : ArrayValue → List (List ℕ)
item_texts (booleans xs) = map boolean_text xs
item_texts (integers xs) = map signed_decimal xs
item_texts (texts xs) = map quoted xs

-- the text before the item at a position from 0: empty at 0, then `,`
abbrev pub separator : ℕ → List ℕ
separator zero = []
separator (suc i) = 44 ∷ []

-- `[`, the texts joined by `,`, and `]` (the Rust crate's `Display` of `Array`): 1 and -2 give
-- [1,-2]
abbrev pub bracketed : List (List ℕ) → List ℕ
bracketed ps = 91 ∷ join_with_byte 44 ps ++ 93 ∷ []

-- the printed text (the Rust crate's `Display` of `Array`): the texts a and b give ["a","b"]
abbrev pub display : ArrayValue → List ℕ
display xs = bracketed (item_texts xs)

-- whether type and items are the same, in order (the Rust crate's `PartialEq` of `Array`)
abbrev pub eq : ArrayValue → ArrayValue → Bool
eq (booleans xs) (booleans ys) = pointwise beq xs ys
eq (integers xs) (integers ys) = pointwise int_eq xs ys
eq (texts xs) (texts ys) = pointwise (pointwise nat_eq) xs ys
eq _ _ = false

-- the data fed to a hasher: the items as a slice, without their type (the Rust crate's `Hash` of
-- `KeyValue`)
abbrev pub hash : ArrayValue → HashWrites
hash (booleans xs) = fed.slice fed.bool xs
hash (integers xs) = fed.slice fed.i64 xs
hash (texts xs) = fed.slice fed.str xs
