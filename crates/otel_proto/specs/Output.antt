-- A message that is written from its end to its start.
use Rattle.std.specs.Prelude.{◌≡◌, ℕ, ◌+◌, ◌-◌, List, [], ◌++◌, length, Option, Some, None}
use Rattle.std.specs.Prelude.{option_map, Result, OnOk}
use Rattle.std.specs.declared.alloc.AllocError.{AllocError}
use Rattle.otel_proto.specs.Wire.{Field}
use Rattle.otel_proto.specs.Written.{head, bytes_of}

-- the number of bytes that were put, and the bytes, unless they are only counted
pub record Output : Type 0 where
  pub count : ℕ
  pub bytes : Option (List ℕ)

-- no bytes, to be counted
abbrev pub counting : Output
counting = record { count = 0; bytes = None }

-- no bytes, to be written
abbrev pub writing : Output
writing = record { count = 0; bytes = Some [] }

-- these bytes before the others
abbrev pub put_bytes : List ℕ → Output → Output
put_bytes s o = record { count = length s + o.count; bytes = option_map (λ t. s ++ t) o.bytes }

-- these fields before the others
unfoldable pub put : List Field → Output → Output
put fields o = put_bytes (bytes_of fields) o

-- the tag and the length of the bytes that were put since the count was `end`, before them
unfoldable pub put_head : ℕ → ℕ → Output → Output
put_head number end o = put_bytes (head number (o.count - end)) o

-- a call that is `Ok` has put these fields
abbrev pub Puts : Result Unit AllocError → Output → Output → List Field → Type 0
Puts result old new fields = OnOk result (new ≡ put fields old)
