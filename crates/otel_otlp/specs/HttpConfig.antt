-- How a collector is reached, and the head of each request [OpenTelemetry protocol, "OTLP/HTTP
-- Request"].
use Rattle.std.specs.Prelude.{◌≡◌, ◌≢◌, ◌⊎◌, ℕ, ◌-◌, ◌==◌, Bool, true, false, List, [], ◌∷◌, ◌++◌}
use Rattle.std.specs.Prelude.{length, take, slice_index, codes, string_bytes, if◌then◌else◌, ⊤}
use Rattle.std.specs.Prelude.{refl}
use Rattle.std.specs.Prelude.{All, eqb, is_some}
use Rattle.std.specs.List.{ends_with}
use Rattle.http_header.specs.HeaderMap.{Entries, insert, RefusesInsert}
use Rattle.http_header.specs.FieldName.{IsFieldName}
use Rattle.http_header.specs.FieldValue.{FieldValue, plain_value, IsFieldValue}
use Rattle.http_header.specs.Token.{lowercase}
use Rattle.http_uri.specs.Uri.{Spells, uri_scheme, uri_path}
use Rattle.http_uri.specs.declared.uri.Uri.{Uri}
use Rattle.http.specs.declared.request.Parts.{Parts}
use Rattle.http.specs.declared.version.TheConstants.Version.{HTTP_11}
use Rattle.otel_base.specs.Blanks.{cut_blanks}
use Rattle.otel_otlp.specs.declared.otlp_http.config.ConfigError.{ConfigError}
use Rattle.otel_otlp.specs.declared.otlp_http.config.ConfigError.TheVariants as error

-- the endpoint, whether it is the endpoint of one signal, the headers of each request, and the
-- greatest length of a body
pub record Config : Type 0 where
  pub endpoint : List ℕ
  pub is_of_signal : Bool
  pub headers : Entries FieldValue
  pub max_body : ℕ

-- a collector on the same machine
abbrev pub local : Config
local = record {
  endpoint = codes "http://localhost:4318";
  is_of_signal = false;
  headers = insert [] (codes "user-agent") (plain_value (codes "OTel-OTLP-Exporter-Rattle/0.1.0"));
  max_body = 4194304;
}

-- ---- headers
-- the header, in lower case, is the exporter's own: no configuration sets it
abbrev pub IsOwn : List ℕ → Type 0
IsOwn name =
    (name ≡ codes "content-type") ⊎ ((name ≡ codes "content-length") ⊎ (name ≡ codes "host"))

-- the error names the header, unless memory ran out
abbrev pub NamesHeader : List ℕ → ConfigError → Type 0
NamesHeader name (error.Endpoint text) = ⊥
NamesHeader name (error.Header text) = string_bytes text ≡ name
NamesHeader name (error.HeaderList piece) = ⊥
NamesHeader name (error.Memory failed) = ⊤

-- whether the value has no blank at an end: it is sent without them [RFC 9110, section 5.5]
abbrev pub is_trimmed : List ℕ → Bool
is_trimmed value = length (cut_blanks value) == length value

abbrev pub HasBlankEnd : List ℕ → Type 0
HasBlankEnd value = is_trimmed value ≡ false

-- no configuration sets this header: it is the exporter's own, or its name or its value isn't one
-- of a header, or the value has a blank at an end
abbrev pub IsRefusedHeader : List ℕ → List ℕ → Type 0
IsRefusedHeader name value =
    IsOwn (lowercase name)
    ⊎ (¬ (IsFieldName name) ⊎ (¬ (IsFieldValue value) ⊎ HasBlankEnd value))

-- the same; or these headers are too many for another name
abbrev pub IsRefusedBy : Entries FieldValue → List ℕ → List ℕ → Type 0
IsRefusedBy headers name value =
    IsRefusedHeader name value ⊎ RefusesInsert headers (lowercase name)

-- an error that names a header says so
abbrev pub IfHeader : Type 0 → ConfigError → Type 0
IfHeader P (error.Header text) = P
IfHeader P other = ⊤

-- the error names the endpoint, unless memory ran out
abbrev pub NamesEndpoint : List ℕ → ConfigError → Type 0
NamesEndpoint endpoint (error.Endpoint text) = string_bytes text ≡ endpoint
NamesEndpoint endpoint (error.Header text) = ⊥
NamesEndpoint endpoint (error.HeaderList piece) = ⊥
NamesEndpoint endpoint (error.Memory failed) = ⊤

-- ---- the target
-- whether the text ends with a slash
abbrev pub ends_with_slash : List ℕ → Bool
ends_with_slash text = slice_index text (length text - 1) == 47

-- the path added to the endpoint: a slash that both have is written once
abbrev pub joined : List ℕ → List ℕ → List ℕ
joined endpoint [] = endpoint
joined endpoint (c ∷ path) =
    (if ends_with_slash endpoint then take (length endpoint - 1) endpoint else endpoint) ++ c ∷ path

-- what is added to the endpoint for the signal with this path: nothing if it is of one signal
abbrev pub added : Config → List ℕ → List ℕ
added config path = if config.is_of_signal then [] else path

-- the text has no query and no fragment
abbrev pub IsPlain : List ℕ → Type 0
IsPlain text = All (λ c. (c ≢ 63) × (c ≢ 35)) text

-- The URI is the endpoint with the path added. It has a scheme, and the path is the end of its own,
-- so the endpoint has a host, and no query or fragment in front of a path.
pub record IsTarget (endpoint path : List ℕ) (uri : Uri) : Type 0 where
  pub text : Spells (joined endpoint path) uri
  pub scheme : is_some (uri_scheme uri) ≡ true
  pub end : ends_with eqb (uri_path uri) path ≡ true
  pub plain : path ≢ [] → IsPlain endpoint

-- no URI is the endpoint with the path added: the text spells none, or one without a scheme, and so
-- without a host, or the path isn't the end of its own
abbrev pub HasNoTarget : List ℕ → List ℕ → Type 0
HasNoTarget endpoint path = (uri : Uri) → ¬ (IsTarget endpoint path uri)

-- an error that names the endpoint says so
abbrev pub IfEndpoint : Type 0 → ConfigError → Type 0
IfEndpoint P (error.Endpoint text) = P
IfEndpoint P other = ⊤

-- ---- the head
-- the headers with the content type of JSON, in place of any other
abbrev pub with_json : Entries FieldValue → Entries FieldValue
with_json headers =
    insert headers (codes "content-type") (plain_value (codes "application/json"))

-- a POST of HTTP/1.1 to the target, with the configured headers and the content type of JSON
pub record IsHead (config : Config) (path : List ℕ) (head : Parts) : Type 0 where
  pub method : head.method ≡ codes "POST"
  pub version : head.version ≡ HTTP_11
  pub uri : IsTarget config.endpoint (added config path) head.uri
  pub headers : head.headers ≡ with_json config.headers

-- ---- worked rows
slash_once : joined (codes "http://h:4318/") (codes "/v1/traces") ≡ codes "http://h:4318/v1/traces"
slash_once = refl

own_path : joined (codes "http://h/a") [] ≡ codes "http://h/a"
own_path = refl

blank_example : (is_trimmed (codes "a b") ≡ true) × (is_trimmed [] ≡ true)
    × (is_trimmed (codes " a") ≡ false) × (is_trimmed (codes "a ") ≡ false)
blank_example = (refl, refl, refl, refl)
