-- The bytes of fields [Protocol Buffers, "Encoding"].
use Rattle.std.specs.Prelude.{◌≡◌, ℕ, zero, suc, ℤ, ◌+◌, ◌*◌, ◌/◌, ◌%◌, ◌==◌, ◌-◌, ◌^◌, nat_lt}
use Rattle.std.specs.Prelude.{Bool, List, [], ◌∷◌, ◌++◌, length, refl, if◌then◌else◌, map}
use Rattle.std.specs.Int.{w32, w64, to_le_bytes, cast_unsigned}
use Rattle.std.specs.List.{flat_map}
use Rattle.otel_proto.specs.Wire.{Field, Content, varint, fixed64, bytes, fixed32}

-- ---- the form on the wire
-- 7 bits a byte, the lowest first, in as few bytes as there can be, and at most n + 1
abbrev pub varint_bytes_within : ℕ → ℕ → List ℕ
varint_bytes_within zero v = v ∷ []
varint_bytes_within (suc n) v =
    if nat_lt v 128 then v ∷ [] else (v % 128 + 128) ∷ varint_bytes_within n (v / 128)

-- a number of 64 bits has at most 10 bytes
unfoldable pub varint_bytes : ℕ → List ℕ
varint_bytes = varint_bytes_within 9

-- the number times 8 plus the wire type
abbrev pub tag : ℕ → ℕ → List ℕ
tag number type = varint_bytes (number * 8 + type)

-- the tag of bytes, and their length
abbrev pub head : ℕ → ℕ → List ℕ
head number count = tag number 2 ++ varint_bytes count

abbrev pub content_bytes : ℕ → Content → List ℕ
content_bytes number (varint v) = tag number 0 ++ varint_bytes v
content_bytes number (fixed64 v) = tag number 1 ++ to_le_bytes w64 v
content_bytes number (bytes s) = head number (length s) ++ s
content_bytes number (fixed32 v) = tag number 5 ++ to_le_bytes w32 v

abbrev pub field_bytes : Field → List ℕ
field_bytes f = content_bytes f.0 f.1

-- the bytes of each field, in order
unfoldable pub bytes_of : List Field → List ℕ
bytes_of = flat_map field_bytes

-- ---- one field
-- a message within another is its bytes
abbrev pub message : ℕ → List Field → Field
message number fields = (number, bytes (bytes_of fields))

-- the message of each value, in order, as fields of one number
abbrev pub messages : {A : Type 0} → ℕ → (A → List Field) → List A → List Field
messages number fields values = map (λ v. message number (fields v)) values

-- a negative integer is its two's complement in 64 bits
abbrev pub integer : ℕ → ℤ → Field
integer number z = (number, varint (cast_unsigned w64 z))

abbrev pub boolean : ℕ → Bool → Field
boolean number b = (number, varint (if b then 1 else 0))

-- left out if there are none
abbrev pub bytes_unless_empty : ℕ → List ℕ → List Field
bytes_unless_empty number s = if length s == 0 then [] else (number, bytes s) ∷ []

-- left out if it is 0
abbrev pub number_unless_zero : ℕ → ℕ → List Field
number_unless_zero number v = if v == 0 then [] else (number, varint v) ∷ []

abbrev pub fixed64_unless_zero : ℕ → ℕ → List Field
fixed64_unless_zero number v = if v == 0 then [] else (number, fixed64 v) ∷ []

abbrev pub fixed32_unless_zero : ℕ → ℕ → List Field
fixed32_unless_zero number v = if v == 0 then [] else (number, fixed32 v) ∷ []

-- ---- worked rows
small_example : varint_bytes 127 ≡ 0x7f ∷ []
unfolding varint_bytes
small_example = refl

two_example : varint_bytes 300 ≡ 0xac ∷ 0x02 ∷ []
unfolding varint_bytes
two_example = refl

long_example :
    varint_bytes (2 ^ 64 - 1) ≡ 255 ∷ 255 ∷ 255 ∷ 255 ∷ 255 ∷ 255 ∷ 255 ∷ 255 ∷ 255 ∷ 1 ∷ []
unfolding varint_bytes
long_example = refl

text_example : bytes_of ((1, bytes (97 ∷ [])) ∷ []) ≡ 0x0a ∷ 1 ∷ 97 ∷ []
unfolding varint_bytes bytes_of
text_example = refl

fixed_example : bytes_of ((16, fixed32 0x301) ∷ []) ≡ 0x85 ∷ 1 ∷ 1 ∷ 3 ∷ 0 ∷ 0 ∷ []
unfolding varint_bytes bytes_of
fixed_example = refl
