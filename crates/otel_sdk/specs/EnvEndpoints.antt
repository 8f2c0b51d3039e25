-- The endpoints that the environment names for exports by OTLP (OpenTelemetry specification,
-- "OpenTelemetry Protocol Exporter").
use Rattle.std.specs.Prelude.{◌≡◌, ℕ, Bool, true, false, not, ◌==◌, ◌&&◌, ◌||◌, List, [], ◌∷◌, ◌++◌}
use Rattle.std.specs.Prelude.{Option, Some, None, codes, refl, if◌then◌else◌}
use Rattle.std.specs.Char.{is_ascii}
use Rattle.std.specs.List.{list_all, list_any}
use Rattle.std.specs.Option.{option_map_or}
use Rattle.std.specs.Str.{bytes_eq}
use Rattle.http_uri.specs.Grammar.{authority_host}
use Rattle.http_uri.specs.Uri.{Spells, SpellsNone, uri_authority, uri_scheme}
use Rattle.http_uri.specs.declared.uri.Uri.{Uri}
use Rattle.otel_sdk.specs.EnvTexts.{Variables, is_long, is_unset, text_of, warned, warning}
use Rattle.otel_sdk.specs.declared.env.endpoints.EndpointFaults.{EndpointFaults}
use Rattle.otel_sdk.specs.declared.env.warning.EnvFault.{EnvFault}
use Rattle.otel_sdk.specs.declared.env.warning.EnvFault.TheVariants as fault
use Rattle.otel_sdk.specs.declared.env.warning.EnvWarning.{EnvWarning}
use Rattle.otel_sdk.specs.declared.env.warning.Instead.TheVariants.{Unset}

-- ---- URLs

-- the URL that the text spells, or None if it spells none
abbrev pub IsUrl : List ℕ → Option Uri → Type 0
IsUrl text None = SpellsNone text
IsUrl text (Some url) = Spells text url

-- whether the scheme is `http` or `https`; of these, the URL has the name in lower case
abbrev pub is_http : Uri → Bool
is_http url =
    option_map_or (λ s. bytes_eq s (codes "http") || bytes_eq s (codes "https")) (uri_scheme url) false

-- whether the text has an `@`
abbrev pub has_at : List ℕ → Bool
has_at text = list_any (λ b. b == 64) text

-- whether user information is in front of the host (RFC 3986, section 3.2.1)
abbrev pub has_user : Uri → Bool
has_user url = option_map_or has_at (uri_authority url) false

-- whether the URL has a host that isn't empty
abbrev pub has_host : Uri → Bool
has_host url = option_map_or (λ a. not (is_unset (authority_host a))) (uri_authority url) false

-- whether the text has only ASCII characters, as a URL has (RFC 3986, section 2)
abbrev pub has_only_ascii : List ℕ → Bool
has_only_ascii text = list_all is_ascii text

-- whether a query or a fragment begins in the text
abbrev pub has_query : List ℕ → Bool
has_query text = list_any (λ b. (b == 63) || (b == 35)) text

-- ---- faults

-- what is wrong with the URL that the text spells. The endpoint of all signals has no query, since
-- the path of a signal is added at its end.
abbrev pub fault_of : Bool → List ℕ → Uri → Option EnvFault
fault_of is_of_all text url =
    if not (is_http url) then Some fault.Scheme
    else (if has_user url then Some fault.UserInfo
    else (if not (has_host url) || not (has_only_ascii text) then Some fault.Url
    else (if is_of_all && has_query text then Some fault.Query else None)))

-- the same if the text may be long, or spell none
abbrev pub fault_in : Bool → List ℕ → Option Uri → Option EnvFault
fault_in is_of_all text url =
    if is_long text then Some fault.Length
    else option_map_or (fault_of is_of_all text) url (Some fault.Url)

-- this is wrong with the text as an endpoint of all signals or of one; nothing, if it is None
abbrev pub IsFault : Bool → List ℕ → Option EnvFault → Type 0
IsFault is_of_all text found =
    (url : Option Uri) × IsUrl text url × (found ≡ fault_in is_of_all text url)

-- these are the faults of the three endpoints
pub record AreFaults (vars : Variables) (faults : EndpointFaults) : Type 0 where
  pub all : IsFault true (text_of (codes "OTEL_EXPORTER_OTLP_ENDPOINT") vars) faults.all
  pub traces :
      IsFault false (text_of (codes "OTEL_EXPORTER_OTLP_TRACES_ENDPOINT") vars) faults.traces
  pub logs : IsFault false (text_of (codes "OTEL_EXPORTER_OTLP_LOGS_ENDPOINT") vars) faults.logs

-- ---- warnings

-- the text as a warning shows it: not if it may hold a password, or is long
abbrev pub shown : List ℕ → List ℕ
shown text = if has_at text || is_long text then codes ".." else text

-- the warning about a text with a fault
abbrev pub fault_warnings : List ℕ → List ℕ → Option EnvFault → List EnvWarning
fault_warnings name text None = []
fault_warnings name text (Some found) = warned false name (shown text) (Unset found)

-- the same about a variable
abbrev pub variable_warnings : List ℕ → Option EnvFault → Variables → List EnvWarning
variable_warnings name found vars = fault_warnings name (text_of name vars) found

-- the warnings about the three endpoints
abbrev pub endpoint_warnings : EndpointFaults → Variables → List EnvWarning
endpoint_warnings faults vars =
    variable_warnings (codes "OTEL_EXPORTER_OTLP_ENDPOINT") faults.all vars
    ++ variable_warnings (codes "OTEL_EXPORTER_OTLP_TRACES_ENDPOINT") faults.traces vars
    ++ variable_warnings (codes "OTEL_EXPORTER_OTLP_LOGS_ENDPOINT") faults.logs vars

-- ---- worked rows
warning_example : fault_warnings (codes "E") (codes "grpc://a:1") (Some fault.Scheme)
    ≡ warning (codes "E") (codes "grpc://a:1") (Unset fault.Scheme) ∷ []
warning_example = refl

password_example : fault_warnings (codes "E") (codes "http://user:pw@h") (Some fault.UserInfo)
    ≡ warning (codes "E") (codes "..") (Unset fault.UserInfo) ∷ []
password_example = refl

unset_example : fault_warnings (codes "E") [] (Some fault.Url) ≡ []
unset_example = refl
