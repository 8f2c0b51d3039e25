-- What a collector answers in Protocol Buffers [opentelemetry/proto/collector/trace/v1/
-- trace_service.proto and logs/v1/logs_service.proto, `ExportTracePartialSuccess` and
-- `ExportLogsPartialSuccess`; google/rpc/status.proto, `Status`].
use Rattle.std.specs.Prelude.{◌≡◌, ℕ, ℤ, ◌%◌, ◌^◌, ◌==◌, List, [], ◌∷◌, ◌++◌, length, refl}
use Rattle.std.specs.Prelude.{Option, Some, None, option_map, option_and_then, unwrap_or}
use Rattle.std.specs.Prelude.{if◌then◌else◌, codes, pos, negsuc}
use Rattle.std.specs.Int.{w32, w64, cast_signed}
use Rattle.std.specs.List.{filter_map, last_or, list_all}
use Rattle.std.specs.Char.{encode_utf8}
use Rattle.std.specs.Str.{is_utf8, chars}
use Rattle.otel_proto.specs.Wire.{Content, Field, varint, fixed64, bytes, fixed32, read}

-- ---- the values of a number [Protocol Buffers, "Encoding"]
abbrev pub as_varint : Content → Option ℕ
as_varint (varint v) = Some v
as_varint (fixed64 v) = None
as_varint (bytes s) = None
as_varint (fixed32 v) = None

abbrev pub as_bytes : Content → Option (List ℕ)
as_bytes (varint v) = None
as_bytes (fixed64 v) = None
as_bytes (bytes s) = Some s
as_bytes (fixed32 v) = None

-- the values of the number's fields, in order; a field of another wire type is skipped
abbrev pub values : {A : Type 0} → (Content → Option A) → ℕ → List Field → List A
values kind number fields = filter_map (λ f. if f.0 == number then kind f.1 else None) fields

-- the last one wins; without any, it is the default
abbrev pub last_of : {A : Type 0} → A → List A → A
last_of default vs = unwrap_or (last_or None vs) default

-- messages of one field are read as one, whose fields are those of each, in order; `None` if one is
-- no message
abbrev pub merged : List (List ℕ) → Option (List Field)
merged [] = Some []
merged (s ∷ more) =
    option_and_then (λ fields. option_map (λ others. fields ++ others) (merged more)) (read s)

-- the message of the number; one that isn't written has no fields
abbrev pub message_of : ℕ → List Field → Option (List Field)
message_of number fields = merged (values as_bytes number fields)

-- ---- an integer under 1 and a string under 2, which each of the messages below has
-- the low 64 bits of the integer, and the bytes of the string
pub record Scalars : Type 0 where
  pub integer : ℕ
  pub string : List ℕ

-- what fields say, with these in place of absent ones; `None` if a string isn't UTF-8
abbrev pub scalars : Scalars → List Field → Option Scalars
scalars absent fields =
    if list_all is_utf8 (values as_bytes 2 fields) then
    Some (record {
      integer = last_of absent.integer (values as_varint 1 fields);
      string = last_of absent.string (values as_bytes 2 fields);
    })
    else None

-- a field that isn't written is 0, or has no bytes
abbrev pub unwritten : Scalars
unwritten = record { integer = 0; string = [] }

-- an empty string is as one that isn't written
abbrev pub unless_empty : List ℕ → Option (List ℕ)
unless_empty s = if length s == 0 then None else Some s

-- ---- a response to a request that the collector has taken
-- how many items it has rejected, an `int64`, and its message
pub record PartialSuccess : Type 0 where
  pub rejected : ℤ
  pub message : Option (List ℕ)

-- `ExportTracePartialSuccess` and `ExportLogsPartialSuccess`, which have the same numbers
abbrev pub partial_success : List Field → Option PartialSuccess
partial_success fields =
    option_map
    (λ s. record { rejected = cast_signed w64 s.integer; message = unless_empty s.string })
    (scalars unwritten fields)

-- `ExportTraceServiceResponse` and `ExportLogsServiceResponse`: what the message 1 of the bytes
-- says, or `None` if they are no such message
abbrev pub response : List ℕ → Option PartialSuccess
response body = option_and_then partial_success (option_and_then (message_of 1) (read body))

-- ---- a response that isn't a success
-- its code, an `int32`, and its message
pub record StatusMessage : Type 0 where
  pub code : ℤ
  pub message : Option (List ℕ)

-- `Status`: what the bytes say, or `None` if they are no such message
abbrev pub status : List ℕ → Option StatusMessage
status body =
    option_map
    (λ s. record { code = cast_signed w32 (s.integer % 2 ^ 32); message = unless_empty s.string })
    (option_and_then (scalars unwritten) (read body))

-- ---- worked rows
-- 2 are rejected, with the message `m`
rejected_example :
    response (0x0a ∷ 5 ∷ 8 ∷ 2 ∷ 0x12 ∷ 1 ∷ 0x6d ∷ [])
    ≡ Some (record { rejected = pos 2; message = Some (codes "m") })
unfolding is_utf8 chars encode_utf8
rejected_example = refl

-- none is rejected, with the message `m`
message_example :
    response (0x0a ∷ 3 ∷ 0x12 ∷ 1 ∷ 0x6d ∷ [])
    ≡ Some (record { rejected = pos 0; message = Some (codes "m") })
unfolding is_utf8 chars encode_utf8
message_example = refl

-- a varint cut off
cut_off_example : response (0x0a ∷ 5 ∷ 8 ∷ 255 ∷ []) ≡ None
cut_off_example = refl

-- no bytes
empty_example : response [] ≡ Some (record { rejected = pos 0; message = None })
empty_example = refl

-- two partial successes are one: 1 and `m`, then 2
twice_example :
    response (0x0a ∷ 5 ∷ 8 ∷ 1 ∷ 0x12 ∷ 1 ∷ 0x6d ∷ 0x0a ∷ 2 ∷ 8 ∷ 2 ∷ [])
    ≡ Some (record { rejected = pos 2; message = Some (codes "m") })
unfolding is_utf8 chars encode_utf8
twice_example = refl

-- -1 in 10 bytes
negative_example :
    response (0x0a ∷ 11 ∷ 8 ∷ 255 ∷ 255 ∷ 255 ∷ 255 ∷ 255 ∷ 255 ∷ 255 ∷ 255 ∷ 255 ∷ 1 ∷ [])
    ≡ Some (record { rejected = negsuc 0; message = None })
negative_example = refl

-- a group of field 100 before the partial success
group_example :
    response (0xa3 ∷ 6 ∷ 8 ∷ 1 ∷ 0xa4 ∷ 6 ∷ 0x0a ∷ 2 ∷ 8 ∷ 2 ∷ [])
    ≡ Some (record { rejected = pos 2; message = None })
group_example = refl

-- a number under the tag of bytes is skipped, and the last number counts
other_type_example :
    response (0x0a ∷ 7 ∷ 8 ∷ 1 ∷ 8 ∷ 2 ∷ 0x0a ∷ 1 ∷ 3 ∷ [])
    ≡ Some (record { rejected = pos 2; message = None })
other_type_example = refl

-- a message that isn't UTF-8, though another follows
not_utf8_example : response (0x0a ∷ 6 ∷ 0x12 ∷ 1 ∷ 255 ∷ 0x12 ∷ 1 ∷ 0x6d ∷ []) ≡ None
unfolding is_utf8 chars encode_utf8
not_utf8_example = refl

-- the code 3 and the message `bad`
status_example :
    status (8 ∷ 3 ∷ 0x12 ∷ 3 ∷ 0x62 ∷ 0x61 ∷ 0x64 ∷ [])
    ≡ Some (record { code = pos 3; message = Some (codes "bad") })
unfolding is_utf8 chars encode_utf8
status_example = refl

-- the code 2^35, whose low 32 bits are 0
low_bits_example :
    status (8 ∷ 0x80 ∷ 0x80 ∷ 0x80 ∷ 0x80 ∷ 0x80 ∷ 1 ∷ [])
    ≡ Some (record { code = pos 0; message = None })
low_bits_example = refl
