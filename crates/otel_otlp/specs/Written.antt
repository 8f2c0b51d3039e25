-- Why a writer took no more bytes, and how many it took.
use Rattle.std.specs.Prelude.{◌<◌, ℕ, List, length, take, Option, Result, Ok}
use Rattle.std.specs.Io.KnownBytes.{Appends}
use Rattle.std.specs.declared.io.Error.{Error}
use Rattle.otel_sdk_base.specs.Writers.{FailsWith}
use Rattle.otel_otlp.specs.declared.written.Cause.{Cause}
use Rattle.otel_otlp.specs.declared.written.Cause.TheVariants.{Failed, TookNone}

-- a write of one or more bytes took none
abbrev pub TakesNoByte : (List ℕ → Result ℕ Error → Type 0) → Type 0
TakesNoByte may_write = (bytes : List ℕ) × (0 < length bytes) × may_write bytes (Ok 0)

-- a write failed with this very error, or took no byte
abbrev pub IsCause : (List ℕ → Result ℕ Error → Type 0) → Cause → Type 0
IsCause may_write (Failed error) = FailsWith may_write error
IsCause may_write TookNone = TakesNoByte may_write

-- the writer took so many of the bytes, and not all; `old` and `new` are what it held and holds
abbrev pub IsCutAt : ℕ → Option (List ℕ) → Option (List ℕ) → List ℕ → Type 0
IsCutAt count old new bytes = (count < length bytes) × Appends old new (take count bytes)
