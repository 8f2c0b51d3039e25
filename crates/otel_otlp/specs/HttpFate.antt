-- The meaning of a collector's answer for the request that it answers [OpenTelemetry protocol,
-- "OTLP/HTTP Response"].
use Rattle.std.specs.Prelude.{◌≡◌, ℕ, ◌-◌, List, Option, Some, None, MatchOption, IfOk, IsOk}
use Rattle.std.specs.Prelude.{Result, Ok, Err, option_map, String, codes, []}
use Rattle.std.specs.declared.alloc.AllocError.{AllocError}
use Rattle.std.specs.declared.alloc.Global.{Global}
use Rattle.std.specs.Str.Parse.{without_leading_plus, digits_value}
use Rattle.http.specs.Response.{head_of, body_of}
use Rattle.http_header.specs.FieldValue.{FieldValue, IsVisibleAscii}
use Rattle.http_header.specs.HeaderMap.{get}
use Rattle.httpdate.specs.Date.{parse_secs}
use Rattle.otel_otlp.specs.HttpClient.{Answer, Received}
use Rattle.otel_otlp.specs.HttpResponse.{Tells, SaysOfItems, HasText}
use Rattle.otel_otlp.specs.HttpStatus.{class_of, IsSeconds}
use Rattle.otel_otlp.specs.declared.otlp_http.fate.Fate.{Fate}
use Rattle.otel_otlp.specs.declared.otlp_http.fate.Fate.TheVariants as fate
use Rattle.otel_otlp.specs.declared.otlp_http.fate.Reason.TheVariants.{Answered, NoResponse}
use Rattle.otel_otlp.specs.declared.otlp_http.fate.Refusal.{Refusal}
use Rattle.otel_otlp.specs.declared.otlp_http.response.Partial.{Partial}
use Rattle.otel_otlp.specs.declared.otlp_http.status.StatusClass.{StatusClass}
use Rattle.otel_otlp.specs.declared.otlp_http.status.StatusClass.TheVariants as status

-- ---- the wait that a refusal asks for
-- the seconds that a text asks for: a number, or a date, which is read at this second since 1970
pub record IsWait (now : ℕ) (text : List ℕ) (wait : Option ℕ) : Type 0 where
  pub number : IsSeconds text → wait ≡ Some (digits_value 10 (without_leading_plus text))
  pub date : ¬ (IsSeconds text) → wait ≡ option_map (λ secs. secs - now) (parse_secs text)

-- the same of a field's value; one with other characters asks for none
pub record IsWaitOf (now : ℕ) (value : FieldValue) (wait : Option ℕ) : Type 0 where
  pub text : IsVisibleAscii value.bytes → IsWait now value.bytes wait
  pub other : ¬ (IsVisibleAscii value.bytes) → wait ≡ None

-- the seconds that the field `Retry-After` asks for, if it is there
abbrev pub IsAskedWait : ℕ → Received → Option ℕ → Type 0
IsAskedWait now response wait =
    MatchOption (get (head_of response).headers (codes "retry-after")) (wait ≡ None)
    (λ value. IsWaitOf now value wait)

-- ---- the meaning of an answer
-- the response says when to send again
pub record IsAgain (now : ℕ) (response : Received) (refusal : Refusal) : Type 0 where
  pub status : refusal.reason ≡ Answered (head_of response).status
  pub wait : IsAskedWait now response refusal.wait

-- the meaning of a response whose status has this meaning; the name is that of the member with the
-- number of rejected items; nothing is told only if the body says nothing, or if memory ran out,
-- which a body without bytes doesn't need
abbrev pub IsFateOf : List ℕ → ℕ → Received → StatusClass → Fate → Type 0
IsFateOf name now response status.Taken f =
    (told : Result (Option Partial) AllocError) × (f ≡ fate.Taken told)
    × IfOk told (Tells (SaysOfItems name (body_of response).items))
    × ((body_of response).items ≡ [] → IsOk told)
IsFateOf name now response status.Again f =
    (refusal : Refusal) × (f ≡ fate.Stays refusal) × IsAgain now response refusal
IsFateOf name now response status.Never f =
    (message : Result (Option (String Global)) AllocError) × (f ≡ fate.GivenUp message)
    × IfOk message (Tells (HasText (body_of response).items))

-- the meaning of an answer at this second since 1970; if there is no response, the request is to be
-- sent again, and the reason is the client's
abbrev pub IsFate : List ℕ → ℕ → Answer → Fate → Type 0
IsFate name now (Ok response) f =
    IsFateOf name now response (class_of (head_of response).status) f
IsFate name now (Err error) f =
    f ≡ fate.Stays (record { reason = NoResponse error; wait = None })
