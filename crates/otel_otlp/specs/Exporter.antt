-- The view of an exporter that writes lines of JSON, and the bytes that its writer gets
-- [OpenTelemetry protocol file exporter, "JSON Lines file"].
use Rattle.std.specs.Prelude.{◌≡◌, ◌⊎◌, ◌<◌, ℕ, Bool, true, false, List, [], ◌∷◌, ◌++◌, length}
use Rattle.std.specs.Prelude.{take, Option, Result, Err, ⊤, IsTrue, OnOk, IsErrOf, None}
use Rattle.std.specs.Prelude.{MatchResult}
use Rattle.std.specs.Prelude.{if◌then◌else◌, alloc_error, codes, string_bytes}
use Rattle.std.specs.Io.KnownBytes.{Appends}
use Rattle.std.specs.declared.io.Error.{Error}
use Rattle.otel_sdk_base.specs.Export.{Calls}
use Rattle.otel_sdk_base.specs.Losses as losses
use Rattle.otel_sdk_base.specs.Writers.{FlushesOnce, FailsWith, IsWritersError}
use Rattle.otel_sdk_base.specs.Resource as resource
use Rattle.otel_sdk_base.specs.Resource.{Parts}
use Rattle.otel_sdk_base.specs.declared.error.OTelSdkError.{OTelSdkError}
use Rattle.otel_sdk_base.specs.declared.error.OTelSdkError.TheVariants as error
use Rattle.otel_otlp.specs.Groups.{BatchForm, batch_value}
use Rattle.otel_otlp.specs.Json.{IsTextOf}
use Rattle.otel_otlp.specs.Written.{TakesNoByte}
use Rattle.otel_otlp.specs.declared.lines.Lines.{Lines}

-- the batches that it has accepted, its writer with whether a newline is pending there, the
-- resource of later items, and whether it was shut down
pub record Exporting (W R : Type 0) : Type 0 where
  pub accepted : List (List R)
  pub lines : Lines W
  pub resource : Parts
  pub is_shut_down : Bool

-- a new exporter that writes to the writer
abbrev pub initial : {W R : Type 0} → W → Exporting W R
initial writer = record {
  accepted = [];
  lines = record { writer = writer; newline_is_pending = false };
  resource = resource.empty;
  is_shut_down = false;
}

-- the exporter, with a newline pending: it is written before the next line
abbrev pub with_pending_newline : {W R : Type 0} → Exporting W R → Exporting W R
with_pending_newline e = record e {
  lines = record { writer = e.lines.writer; newline_is_pending = true };
}

-- ---- bytes
-- a newline, U+000A, if it is pending
abbrev pub pending : Bool → List ℕ
pending is_pending = if is_pending then 10 ∷ [] else []

-- These lines were written: the bytes that the writer accepted, with the newline that is pending
-- afterwards, are the newline that was pending before, and then the lines. It says nothing about a
-- writer that isn't known to hold bytes.
pub record LinesWritten (old new : Option (List ℕ)) (was is : Bool) (lines : List ℕ) : Type 0 where
  pub taken : List ℕ
  pub appended : Appends old new taken
  pub whole : taken ++ pending is ≡ pending was ++ lines

-- between the two states these lines were written; `contents` are the bytes that a writer holds
abbrev pub Writes :
    {W : Type 0} → (W → Option (List ℕ)) → Lines W → Lines W → List ℕ → Type 0
Writes contents old new lines =
    LinesWritten (contents old.writer) (contents new.writer)
    old.newline_is_pending new.newline_is_pending lines

-- a truncated line: the first bytes of the text, at least one and not all, and a newline; or
-- nothing
abbrev pub IsCutOff : List ℕ → List ℕ → Type 0
IsCutOff text line =
    (line ≡ [])
    ⊎ ((n : ℕ) × (0 < n) × (n < length text) × (line ≡ take n text ++ 10 ∷ []))

-- ---- the lines of batches
-- the line of the batch: the text of its object, and a newline; nothing for an empty batch
abbrev pub IsLineOf : {R : Type 0} → BatchForm R → Parts → List R → List ℕ → Type 0
IsLineOf form resource [] line = line ≡ []
IsLineOf form resource (r ∷ more) line =
    (text : List ℕ) × IsTextOf text (batch_value form resource (r ∷ more))
    × (line ≡ text ++ 10 ∷ [])

-- the truncated line of the batch, or nothing
abbrev pub IsCutOffLineOf : {R : Type 0} → BatchForm R → Parts → List R → List ℕ → Type 0
IsCutOffLineOf form resource batch line =
    (line ≡ [])
    ⊎ ((text : List ℕ) × IsTextOf text (batch_value form resource batch) × IsCutOff text line)

-- ---- calls
-- the error says this; its text is empty if memory ran out too
abbrev pub Says : List ℕ → OTelSdkError → Type 0
Says text (error.InternalFailure message) =
    (string_bytes message ≡ text) ⊎ (string_bytes message ≡ [])
Says text other = ⊥

-- the error is the very one of a write that failed, or says this of a write that took no byte
abbrev pub Tells : (List ℕ → Result ℕ Error → Type 0) → List ℕ → OTelSdkError → Type 0
Tells may_write text (error.Io cause) = FailsWith may_write cause
Tells may_write text told = TakesNoByte may_write × Says text told

-- why a line wasn't taken, unless memory ran out
abbrev pub SaysOfLine : (List ℕ → Result ℕ Error → Type 0) → OTelSdkError → Type 0
SaysOfLine may_write (error.Memory cause) = ⊤
SaysOfLine may_write told = Tells may_write (codes "the writer didn't take the line") told

-- an exporter that was shut down returns this error and is unchanged, and no other returns it
pub record RefusesIfShutDown {W R : Type 0} (result : Result ⊤ OTelSdkError)
    (old new : Exporting W R) : Type 0 where
  pub refused : IsTrue old.is_shut_down → IsErrOf result error.AlreadyShutdown
  pub only_then : IsErrOf result error.AlreadyShutdown → IsTrue old.is_shut_down
  pub unchanged : IsTrue old.is_shut_down → new ≡ old

-- only the pending newline is written, and on `Ok` it is written; no error says that the exporter
-- was shut down
pub record Flushes {W : Type 0} (contents : W → Option (List ℕ)) (result : Result ⊤ OTelSdkError)
    (old new : Lines W) : Type 0 where
  pub written : OnOk result (new.newline_is_pending ≡ false)
  pub writes : Writes contents old new []
  pub goes_on : IsErrOf result error.AlreadyShutdown → ⊥

-- The answer to a flush: the writer was flushed once. The error says that this failed, or why the
-- pending newline wasn't taken before. Only the writer's calls show `may_write` and `flushed`.
abbrev pub IsFlushed : {W : Type 0} → (List ℕ → Result ℕ Error → Type 0)
    → (W → List Bool → Type 0) → Result ⊤ OTelSdkError → Lines W → Lines W → Type 0
IsFlushed may_write flushed answer old new =
    MatchResult answer
    (λ _. FlushesOnce flushed true old.writer new.writer)
    (λ told.
    (FlushesOnce flushed false old.writer new.writer × Says (codes "the writer wasn't flushed") told)
    ⊎ Tells may_write (codes "the writer didn't take the newline") told)

-- an open exporter refused a batch: without a call of the writer if memory ran out, and otherwise
-- because the writer took no more
pub record RefusesBatch {W R : Type 0} (may_write : List ℕ → Result ℕ Error → Type 0)
    (told : OTelSdkError) (old new : Exporting W R) : Type 0 where
  pub refuses : RefusesIfShutDown (Err told) old new
  pub failed : old.is_shut_down ≡ false → IsWritersError may_write told
  pub says : old.is_shut_down ≡ false → SaysOfLine may_write told
  pub memory : told ≡ error.Memory alloc_error → new ≡ old

-- only the pending newline is written, and on `Ok` it is written; nothing else changes. The writer
-- of an open exporter was flushed, or the error says why not
pub record ForceFlushes {W R : Type 0} (contents : W → Option (List ℕ))
    (may_write : List ℕ → Result ℕ Error → Type 0) (flushed : W → List Bool → Type 0)
    (result : Result ⊤ OTelSdkError) (old new : Exporting W R) : Type 0 where
  pub refuses : RefusesIfShutDown result old new
  pub written : OnOk result (new.lines.newline_is_pending ≡ false)
  pub writes : Writes contents old.lines new.lines []
  pub answered : old.is_shut_down ≡ false → IsFlushed may_write flushed result old.lines new.lines
  pub rest : new ≡ record old { lines = new.lines }

-- the same, and the exporter is shut down
pub record ShutsDown {W R : Type 0} (contents : W → Option (List ℕ))
    (may_write : List ℕ → Result ℕ Error → Type 0) (flushed : W → List Bool → Type 0)
    (result : Result ⊤ OTelSdkError) (old new : Exporting W R) : Type 0 where
  pub refuses : RefusesIfShutDown result old new
  pub written : OnOk result (new.lines.newline_is_pending ≡ false)
  pub writes : Writes contents old.lines new.lines []
  pub answered : old.is_shut_down ≡ false → IsFlushed may_write flushed result old.lines new.lines
  pub rest : new ≡ record old { lines = new.lines; is_shut_down = true }

-- What the exporter says about its calls. Only if it was shut down, a batch is refused with
-- `AlreadyShutdown`.
abbrev pub exporter_calls : {W R : Type 0} → (W → Option (List ℕ))
    → (List ℕ → Result ℕ Error → Type 0) → (W → List Bool → Type 0) → Calls (Exporting W R)
exporter_calls contents may_write flushed = record {
  refuses = λ old told new. RefusesBatch may_write told old new;
  flushes = λ old answer new. ForceFlushes contents may_write flushed answer old new;
  shuts_down = λ old answer new. ShutsDown contents may_write flushed answer old new;
  takes_resource = λ old resource new. new ≡ record old { resource = resource };
  flushed = λ _ _. Unit {0};
  losses = λ _. losses.none;
  last_message = λ _. None;
}
