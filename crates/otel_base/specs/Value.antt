-- Values of attributes: their meaning, their printed text and the data fed to a hasher.
use Rattle.std.specs.Prelude.{ℕ, ℤ, List, Bool, true, false, nat_eq}
use Rattle.std.specs.Fmt.{signed_decimal}
use Rattle.std.specs.Ordering.{int_eq}
use Rattle.std.specs.Cmp.Lexicographic.{pointwise}
use Rattle.std.specs.Hash as fed
use Rattle.std.specs.Hash.{HashWrites}
use Rattle.std.proofs.Math.Bool.{beq}
use Rattle.otel_base.specs.Array as Array
use Rattle.otel_base.specs.Array.{ArrayValue, boolean_text}

-- the content, with its type (the Rust crate's `Value`): `integer 1` is not `boolean true`
pub data AttributeValue : Type 0 where
  boolean : Bool → AttributeValue
  integer : ℤ → AttributeValue
  text : List ℕ → AttributeValue
  array : ArrayValue → AttributeValue

-- whether it is a text, which `as_str` borrows and `from_value` moves
abbrev pub is_text : AttributeValue → Bool
is_text (text s) = true
is_text _ = false

-- the printed text (the Rust crate's `Display` of `Value`): a text is printed as it is
abbrev pub display : AttributeValue → List ℕ
display (boolean b) = boolean_text b
display (integer z) = signed_decimal z
display (text s) = s
display (array xs) = Array.display xs

-- whether type and content are the same (the Rust crate's `PartialEq` of `Value`)
abbrev pub eq : AttributeValue → AttributeValue → Bool
eq (boolean x) (boolean y) = beq x y
eq (integer x) (integer y) = int_eq x y
eq (text x) (text y) = pointwise nat_eq x y
eq (array x) (array y) = Array.eq x y
eq _ _ = false

-- the data fed to a hasher: the content, without its type (the Rust crate's `Hash` of `KeyValue`)
abbrev pub hash : AttributeValue → HashWrites
hash (boolean b) = fed.bool b
hash (integer z) = fed.i64 z
hash (text s) = fed.str s
hash (array xs) = Array.hash xs
