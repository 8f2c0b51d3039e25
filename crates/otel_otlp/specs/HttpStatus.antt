-- The statuses of a collector's responses [OpenTelemetry protocol, "OTLP/HTTP Response"], and the
-- seconds of a `Retry-After` [RFC 9110, section 10.2.3].
use Rattle.std.specs.Prelude.{◌≡◌, ℕ, ◌<◌, ◌^◌, ◌==◌, ◌&&◌, ◌||◌, List, nat_le, nat_lt}
use Rattle.std.specs.Prelude.{if◌then◌else◌, refl}
use Rattle.std.specs.Str.Parse.{without_leading_plus, IsNumeral, digits_value}
use Rattle.otel_otlp.specs.declared.otlp_http.status.StatusClass.{StatusClass}
use Rattle.otel_otlp.specs.declared.otlp_http.status.StatusClass.TheVariants.{Taken, Again, Never}

-- a success is taken; 429, 502, 503 and 504 ask to send again; every other status never does
abbrev pub class_of : ℕ → StatusClass
class_of status =
    if nat_le 200 status && nat_lt status 300 then Taken
    else (if status == 429 || status == 502 || status == 503 || status == 504 then Again else Never)

-- the text is a number of seconds, of 64 bits
abbrev pub IsSeconds : List ℕ → Type 0
IsSeconds text =
    IsNumeral 10 (without_leading_plus text)
    × (digits_value 10 (without_leading_plus text) < 2 ^ 64)

-- ---- worked rows
bad_request : class_of 400 ≡ Never
bad_request = refl

unavailable : class_of 503 ≡ Again
unavailable = refl

no_content : class_of 204 ≡ Taken
no_content = refl
