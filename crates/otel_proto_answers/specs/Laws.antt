-- What a collector writes is read, and messages that are read as one.
use Rattle.std.specs.Prelude.{◌≡◌, ℕ, ℤ, ◌==◌, List, [], ◌∷◌, ◌++◌, Some, IsUtf8, FitsSigned}
use Rattle.std.specs.Prelude.{if◌then◌else◌}
use Rattle.std.specs.Int.{w64, cast_unsigned}
use Rattle.std.specs.List.{concat}
use Rattle.otel_proto.specs.Laws.{AreShort}
use Rattle.otel_proto.specs.Wire.{Field, read}
use Rattle.otel_proto.specs.Written.{bytes_of, message, integer, bytes_unless_empty}
use Rattle.otel_proto_answers.specs.Answers.{merged, response, unless_empty}

-- left out if it is 0
abbrev pub integer_unless_zero : ℕ → ℤ → List Field
integer_unless_zero number z =
    if cast_unsigned w64 z == 0 then [] else integer number z ∷ []

-- the fields of a response with this number of rejected items and this message, as they are written
abbrev pub response_fields : ℤ → List ℕ → List Field
response_fields rejected string =
    message 1 (integer_unless_zero 1 rejected ++ bytes_unless_empty 2 string) ∷ []

-- a response that is written is read as what it says, whatever number of 64 bits and string it has
abbrev pub WrittenResponseReadsBack : Type 0
WrittenResponseReadsBack =
    (rejected : ℤ) (string : List ℕ) → FitsSigned w64 rejected → IsUtf8 string
    → AreShort (response_fields rejected string)
    → response (bytes_of (response_fields rejected string))
    ≡ Some (record { rejected = rejected; message = unless_empty string })

-- messages that are read as one are read as their bytes, one after the other
abbrev pub MergedMessagesAreJoined : Type 0
MergedMessagesAreJoined =
    (messages : List (List ℕ)) (fields : List Field)
    → merged messages ≡ Some fields → read (concat messages) ≡ Some fields
