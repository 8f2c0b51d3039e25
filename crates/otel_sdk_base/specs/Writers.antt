-- What the answers of a writer or an exporter mean. Only its calls show `may_write` and `flushed`.
use Rattle.std.specs.Prelude.{◌≡◌, ◌<◌, ℕ, List, [], ◌∷◌, ◌++◌, length}
use Rattle.std.specs.Prelude.{Result, Ok, Err, ⊤}
use Rattle.std.specs.declared.io.Error.{Error}
use Rattle.otel_sdk_base.specs.declared.error.OTelSdkError.{OTelSdkError}
use Rattle.otel_sdk_base.specs.declared.error.OTelSdkError.TheVariants as error

-- ---- writes
-- the answer of a call that gets no further: no byte, or an error
abbrev pub TakesNone : Result ℕ Error → Type 0
TakesNone (Ok count) = count ≡ 0
TakesNone (Err error) = ⊤

-- a write of one or more bytes got no further
abbrev pub IsStuck : (List ℕ → Result ℕ Error → Type 0) → Type 0
IsStuck may_write = (bytes : List ℕ) × (answer : Result ℕ Error) × (0 < length bytes)
    × may_write bytes answer × TakesNone answer

-- a write of one or more bytes failed with this error
abbrev pub FailsWith : (List ℕ → Result ℕ Error → Type 0) → Error → Type 0
FailsWith may_write error = (bytes : List ℕ) × (0 < length bytes) × may_write bytes (Err error)

-- the error says that memory ran out, or that the writer failed, which it did: with that very error
abbrev pub IsWritersError : (List ℕ → Result ℕ Error → Type 0) → OTelSdkError → Type 0
IsWritersError may_write (error.Memory cause) = ⊤
IsWritersError may_write (error.InternalFailure message) = IsStuck may_write
IsWritersError may_write (error.Io cause) = FailsWith may_write cause
IsWritersError may_write other = ⊥

-- ---- flushes
-- `flushed` relates it and its answers to the flushes so far, in order.

-- it wasn't flushed
abbrev pub FlushesNever : {W A : Type 0} → (W → List A → Type 0) → W → W → Type 0
FlushesNever {A = A} flushed old new =
    (answers : List A) → flushed old answers → flushed new answers

-- it was flushed once, and answered this
abbrev pub FlushesOnce : {W A : Type 0} → (W → List A → Type 0) → A → W → W → Type 0
FlushesOnce {A = A} flushed answer old new =
    (answers : List A) → flushed old answers → flushed new (answers ++ answer ∷ [])
