-- When a refused request may be sent again.
use Rattle.std.specs.Prelude.{◌≡◌, ◌⊎◌, ◌≤◌, ℕ, ◌+◌, ◌-◌, ◌*◌, ◌/◌, ◌%◌, ◌==◌, List, [], ◌∷◌, ◌++◌}
use Rattle.std.specs.Prelude.{Option, Some, None, ⊤}
use Rattle.std.specs.Prelude.{string_bytes, codes, decimal, if◌then◌else◌, refl}
use Rattle.opentelemetry.specs.Clock.{within_u64}
use Rattle.otel_sdk_base.specs.declared.error.OTelSdkError.{OTelSdkError}
use Rattle.otel_sdk_base.specs.declared.error.OTelSdkError.TheVariants as error
use Rattle.otel_otlp.specs.Backoff as backoff
use Rattle.otel_otlp.specs.declared.otlp_http.fate.Reason.{Reason}
use Rattle.otel_otlp.specs.declared.otlp_http.fate.Reason.TheVariants.{Answered, NoResponse}
use Rattle.otel_otlp.specs.declared.otlp_http.fate.Refusal.{Refusal}

-- The next wait before the factor, in milliseconds; the moment before which nothing is sent, in
-- nanoseconds since 1970; the reason of the last refusal, if there is one; and the moments that the
-- clock showed, one for each time that it was asked.
pub record PauseOf : Type 0 where
  pub delay : ℕ
  pub not_before : ℕ
  pub reason : Option Reason
  pub shown : List ℕ

-- no refusal yet
abbrev pub started : PauseOf
started = record { delay = backoff.first; not_before = 0; reason = None; shown = [] }

-- a request has left: the next refusal is the first in a row
abbrev pub restarted : PauseOf → PauseOf
restarted pause = record pause { delay = backoff.first; not_before = 0; reason = None }

-- the clock was asked, and showed this moment
abbrev pub after_reading : ℕ → PauseOf → PauseOf
after_reading now pause = record pause { shown = pause.shown ++ now ∷ [] }

-- after a refusal at this moment, with this factor in thousandths
abbrev pub after_refusal : ℕ → ℕ → Refusal → PauseOf → PauseOf
after_refusal now factor refusal pause = record pause {
  delay = backoff.next pause.delay;
  not_before =
      within_u64 (now + within_u64 (backoff.wait pause.delay factor refusal.wait * 1000000));
  reason = Some refusal.reason;
}

-- the same, with a factor between 0.8 and 1.2
pub record IsRefused (now : ℕ) (refusal : Refusal) (old new : PauseOf) : Type 0 where
  pub factor : ℕ
  pub low : 800 ≤ factor
  pub high : factor ≤ 1200
  pub after : new ≡ after_refusal now factor refusal old

-- ---- the error
-- the whole seconds from the one moment to the other, rounded up
abbrev pub seconds_left : ℕ → ℕ → ℕ
seconds_left now moment =
    (moment - now) / 1000000000 + (if (moment - now) % 1000000000 == 0 then 0 else 1)

abbrev pub answered_text : ℕ → List ℕ
answered_text status = codes "the collector answered " ++ decimal status

-- why the request is to be sent again: the status, or how the client's error prints, of which no
-- contract of std speaks
abbrev pub IsReasonText : Option Reason → List ℕ → Type 0
IsReasonText None text = text ≡ codes "no response came"
IsReasonText (Some (Answered status)) text = text ≡ answered_text status
IsReasonText (Some (NoResponse error)) text = ⊤

-- the reason, and the wait in seconds
abbrev pub IsRefusalText : Option Reason → ℕ → List ℕ → Type 0
IsRefusalText reason seconds text =
    (why : List ℕ) × IsReasonText reason why
    × (text ≡ why ++ codes "; to be sent again in " ++ decimal seconds ++ codes " s")

-- the error names the reason and the wait, unless memory ran out, when it has no text
abbrev pub NamesWait : ℕ → PauseOf → OTelSdkError → Type 0
NamesWait now pause (error.InternalFailure text) =
    IsRefusalText pause.reason (seconds_left now pause.not_before) (string_bytes text)
    ⊎ (string_bytes text ≡ [])
NamesWait now pause other = ⊥

-- ---- worked rows
rounded_up : seconds_left 500000000 7000000000 ≡ 7
rounded_up = refl
