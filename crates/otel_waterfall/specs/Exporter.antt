-- Contracts' view of an exporter that draws spans. Not in the Rust crates.
use Rattle.std.specs.Prelude.{◌≡◌, ◌⊎◌, ◌<◌, ℕ, Bool, true, false, List, [], length, take, codes}
use Rattle.std.specs.Prelude.{string_bytes}
use Rattle.std.specs.Prelude.{Option, Result, Ok, Err, is_ok, ⊤, alloc_error, None}
use Rattle.std.specs.Prelude.{IsTrue, IsErrOf, IfErr}
use Rattle.std.specs.Io.KnownBytes.{Appends, Keeps}
use Rattle.std.specs.declared.io.Error.{Error}
use Rattle.otel_sdk_base.specs.Export.{Calls}
use Rattle.otel_sdk_base.specs.Losses as losses
use Rattle.otel_sdk_base.specs.Writers.{FlushesOnce, FailsWith, IsWritersError}
use Rattle.otel_sdk_base.specs.declared.error.OTelSdkError.{OTelSdkError}
use Rattle.otel_sdk_base.specs.declared.error.OTelSdkError.TheVariants as error
use Rattle.otel_sdk_span.specs.SpanData.{SpanRecord}
use Rattle.otel_waterfall.specs.Picture.{IsPictureOf}

-- the batches that it has accepted, the writer that it draws to, the width in columns, whether it
-- draws in ASCII, and whether it was shut down
pub record Waterfall (W : Type 0) : Type 0 where
  pub accepted : List (List SpanRecord)
  pub output : W
  pub width : ℕ
  pub is_ascii : Bool
  pub is_shut_down : Bool

-- an exporter that was shut down returns this error and is unchanged, and no other returns it
pub record RefusesIfShutDown {W : Type 0} (result : Result ⊤ OTelSdkError) (old new : Waterfall W)
    : Type 0 where
  pub refused : IsTrue old.is_shut_down → IsErrOf result error.AlreadyShutdown
  pub only_then : IsErrOf result error.AlreadyShutdown → IsTrue old.is_shut_down
  pub unchanged : IsTrue old.is_shut_down → new ≡ old

-- ---- the writer's answers, of which only its calls show `may_write` and `flushed`

-- the error says that the writer failed; its text is empty if memory ran out too
abbrev pub SaysThatWriterFailed : OTelSdkError → Type 0
SaysThatWriterFailed (error.InternalFailure message) =
    (string_bytes message ≡ codes "the writer failed") ⊎ (string_bytes message ≡ [])
SaysThatWriterFailed other = ⊥

-- the error is the very one of a write that failed, or says that a write of one or more bytes took
-- none
abbrev pub TellsOfWrite : (List ℕ → Result ℕ Error → Type 0) → OTelSdkError → Type 0
TellsOfWrite may_write (error.Io cause) = FailsWith may_write cause
TellsOfWrite may_write other =
    (bytes : List ℕ) × (0 < length bytes) × may_write bytes (Ok 0) × SaysThatWriterFailed other

-- why a picture wasn't written, unless memory ran out
abbrev pub SaysOfPicture : (List ℕ → Result ℕ Error → Type 0) → OTelSdkError → Type 0
SaysOfPicture may_write (error.Memory cause) = ⊤
SaysOfPicture may_write other = TellsOfWrite may_write other

-- ---- calls

-- an open exporter refused a batch: without a call of the writer if memory ran out, and otherwise
-- because the writer failed
pub record RefusesBatch {W : Type 0} (may_write : List ℕ → Result ℕ Error → Type 0)
    (told : OTelSdkError) (old new : Waterfall W) : Type 0 where
  pub refuses : RefusesIfShutDown (Err told) old new
  pub failed : old.is_shut_down ≡ false → IsWritersError may_write told
  pub says : old.is_shut_down ≡ false → SaysOfPicture may_write told
  pub memory : told ≡ error.Memory alloc_error → new ≡ old

-- the writer of an open exporter was flushed once, and got no bytes; an error says that it failed
pub record FlushesWriter {W : Type 0} (contents : W → Option (List ℕ))
    (flushed : W → List Bool → Type 0) (answer : Result ⊤ OTelSdkError) (old new : Waterfall W)
    : Type 0 where
  pub refuses : RefusesIfShutDown answer old new
  pub bytes : Keeps (contents old.output) (contents new.output)
  pub once : old.is_shut_down ≡ false → FlushesOnce flushed (is_ok answer) old.output new.output
  pub failed : old.is_shut_down ≡ false → IfErr answer SaysThatWriterFailed

-- What the exporter says about its calls. It ignores resources.
abbrev pub exporter_calls : {W : Type 0} → (W → Option (List ℕ))
    → (List ℕ → Result ℕ Error → Type 0) → (W → List Bool → Type 0) → Calls (Waterfall W)
exporter_calls contents may_write flushed = record {
  refuses = λ old told new. RefusesBatch may_write told old new;
  flushes = λ old answer new. FlushesWriter contents flushed answer old new
      × (new ≡ record old { output = new.output });
  shuts_down = λ old answer new. FlushesWriter contents flushed answer old new
      × (new ≡ record old { output = new.output; is_shut_down = true });
  takes_resource = λ old _ new. new ≡ old;
  flushed = λ _ _. Unit {0};
  losses = λ _. losses.none;
  last_message = λ _. None;
}

-- ---- pictures

-- a part of the picture of the batch, from its first byte on, or nothing
abbrev pub IsPartOfPicture : Bool → ℕ → List SpanRecord → List ℕ → Type 0
IsPartOfPicture ascii width batch part =
    (part ≡ [])
    ⊎ ((text : List ℕ) × IsPictureOf ascii width batch text × (n : ℕ) × (part ≡ take n text))

-- the picture of the batch was added after the bytes of a writer, if these are known
abbrev pub AddsPicture : Bool → ℕ → List SpanRecord → Option (List ℕ) → Option (List ℕ) → Type 0
AddsPicture ascii width batch old new =
    (text : List ℕ) × IsPictureOf ascii width batch text × Appends old new text

-- the same for a part of the picture
abbrev pub AddsPartOfPicture : Bool → ℕ → List SpanRecord → Option (List ℕ) → Option (List ℕ)
    → Type 0
AddsPartOfPicture ascii width batch old new =
    (part : List ℕ) × IsPartOfPicture ascii width batch part × Appends old new part
