-- Written fields read back.
use Rattle.std.specs.Prelude.{◌≡◌, ◌<◌, ◌^◌, List, length, Some, ⊤, true}
use Rattle.std.specs.List.{All}
use Rattle.otel_proto.specs.Wire.{Field, Content, varint, fixed64, bytes, fixed32, is_number, read}
use Rattle.otel_proto.specs.Written.{bytes_of}

-- it fits its wire type
abbrev pub FitsType : Content → Type 0
FitsType (varint v) = v < 2 ^ 64
FitsType (fixed64 v) = v < 2 ^ 64
FitsType (bytes s) = ⊤
FitsType (fixed32 v) = v < 2 ^ 32

-- its number is one of a field, and its content fits its type
pub record IsField (f : Field) : Type 0 where
  pub number : is_number f.0 ≡ true
  pub content : FitsType f.1

-- the length of their bytes is a number of 64 bits
abbrev pub AreShort : List Field → Type 0
AreShort fields = length (bytes_of fields) < 2 ^ 64

-- the bytes of fields are read as these fields, in order, and as nothing else
abbrev pub WrittenFieldsReadBack : Type 0
WrittenFieldsReadBack =
    (fields : List Field) → All IsField fields → AreShort fields
    → read (bytes_of fields) ≡ Some fields

-- fields with the same bytes are the same
abbrev pub EqualBytesSaySame : Type 0
EqualBytesSaySame =
    (fs gs : List Field) → All IsField fs → All IsField gs → AreShort fs
    → bytes_of fs ≡ bytes_of gs → fs ≡ gs
