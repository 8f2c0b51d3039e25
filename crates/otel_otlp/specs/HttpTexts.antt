-- How a collector is reached by the texts of environment variables (OpenTelemetry specification,
-- "OpenTelemetry Protocol Exporter").
use Rattle.std.specs.Prelude.{◌≡◌, ℕ, true, false, List, [], ◌∷◌, ◌++◌, fold}
use Rattle.std.specs.Prelude.{All, Any, Option, Some, None, ⊤, codes, string_bytes, refl}
use Rattle.http_header.specs.FieldValue.{FieldValue, plain_value}
use Rattle.http_header.specs.HeaderMap.{Entries, insert}
use Rattle.http_header.specs.Token.{lowercase}
use Rattle.otel_base.specs.KeyValue.{Attribute}
use Rattle.otel_base.specs.Value as value
use Rattle.otel_base.specs.Value.{AttributeValue}
use Rattle.otel_sdk_base.specs.ResourceTexts as resource
use Rattle.otel_sdk_base.specs.ResourceTexts.{pieces, fault}
use Rattle.otel_sdk_base.specs.declared.otlp.EnvEndpoint.{EnvEndpoint}
use Rattle.otel_sdk_base.specs.declared.otlp.EnvEndpoint.TheVariants.{Base, Exact}
use Rattle.otel_sdk_base.specs.declared.otlp.EnvOtlp.{EnvOtlp}
use Rattle.otel_otlp.specs.HttpConfig.{Config, local, IsRefusedBy, IsRefusedHeader}
use Rattle.otel_otlp.specs.declared.otlp_http.config.ConfigError.{ConfigError}
use Rattle.otel_otlp.specs.declared.otlp_http.config.ConfigError.TheVariants as error

-- ---- one piece
-- the first of these, if there is one
abbrev pub first : List Attribute → Option Attribute
first [] = None
first (a ∷ more) = Some a

-- the name and the value of a piece `NAME=VALUE`, read as an attribute of a resource; a blank piece
-- has none
abbrev pub read : List ℕ → Option Attribute
read piece = first (resource.from_texts piece []).attributes

-- the text of a value
abbrev pub text_of : AttributeValue → List ℕ
text_of (value.text t) = t
text_of _ = []

-- the headers with the one of this name and value, in place of an earlier one of the name
abbrev pub with_read : Entries FieldValue → Option Attribute → Entries FieldValue
with_read headers None = headers
with_read headers (Some a) = insert headers (lowercase a.0) (plain_value (text_of a.1))

-- no configuration sets the header of this name and value
abbrev pub IsReadRefused : Option Attribute → Type 0
IsReadRefused None = ⊥
IsReadRefused (Some a) = IsRefusedHeader a.0 (text_of a.1)

-- the same; or these headers are too many for another name
abbrev pub IsReadRefusedBy : Entries FieldValue → Option Attribute → Type 0
IsReadRefusedBy headers None = ⊥
IsReadRefusedBy headers (Some a) = IsRefusedBy headers a.0 (text_of a.1)

-- the error names it, unless memory ran out
abbrev pub NamesRead : Option Attribute → ConfigError → Type 0
NamesRead read (error.Endpoint text) = ⊥
NamesRead None (error.Header text) = ⊥
NamesRead (Some a) (error.Header text) = string_bytes text ≡ a.0
NamesRead read (error.HeaderList piece) = ⊥
NamesRead read (error.Memory failed) = ⊤

-- the headers with the one of the piece, in place of an earlier one of its name
abbrev pub with_piece : Entries FieldValue → List ℕ → Entries FieldValue
with_piece headers piece = with_read headers (read piece)

-- the piece isn't a header that may be configured
abbrev pub IsRefused : List ℕ → Type 0
IsRefused piece = IsReadRefused (read piece)

-- ---- the list
-- the headers with each of the list in turn, so that the last one of a name counts
abbrev pub with_list : Entries FieldValue → List ℕ → Entries FieldValue
with_list headers list = fold with_piece headers (pieces list)

-- each piece of the list is blank, or a header that may be configured
pub record AreHeaders (list : List ℕ) : Type 0 where
  pub readable : fault list ≡ None
  pub allowed : All (λ piece. ¬ IsRefused piece) (pieces list)

-- a piece of the list is refused by the headers with those of the pieces before it
pub record OneIsRefused (headers : Entries FieldValue) (list : List ℕ) : Type 0 where
  pub before : List (List ℕ)
  pub piece : List ℕ
  pub after : List (List ℕ)
  pub whole : pieces list ≡ before ++ piece ∷ after
  pub refused : IsReadRefusedBy (fold with_piece headers before) (read piece)

-- the error names the first piece that isn't understood, or the header of a piece that isn't
-- allowed, unless memory ran out
abbrev pub NamesPiece : List ℕ → ConfigError → Type 0
NamesPiece list (error.Endpoint text) = ⊥
NamesPiece list (error.Header text) =
    Any (λ piece. NamesRead (read piece) (error.Header text)) (pieces list)
NamesPiece list (error.HeaderList piece) = fault list ≡ Some piece
NamesPiece list (error.Memory failed) = ⊤

-- ---- the whole configuration
-- the endpoint of the signal, or of all signals if the signal has none, or else the local one
abbrev pub with_endpoints : List ℕ → List ℕ → Config → Config
with_endpoints [] [] config = config
with_endpoints (c ∷ all) [] config = record config { endpoint = c ∷ all; is_of_signal = false }
with_endpoints all (c ∷ own) config = record config { endpoint = c ∷ own; is_of_signal = true }

-- the configuration of the endpoint of all signals, the signal's own, and the list of headers, each
-- of which may be empty
abbrev pub of_texts : List ℕ → List ℕ → List ℕ → Config
of_texts all own list =
    let config = with_endpoints all own local in
    record config { headers = with_list config.headers list }

-- the text that counts for all signals, and the signal's own
abbrev pub general : EnvEndpoint → List ℕ
general (Base text) = text
general (Exact text) = []

abbrev pub own : EnvEndpoint → List ℕ
own (Base text) = []
own (Exact text) = text

-- the configuration that the environment gives
abbrev pub of_env : EnvOtlp → Config
of_env otlp = of_texts (general otlp.endpoint) (own otlp.endpoint) otlp.headers

-- ---- worked rows
own_endpoint : with_endpoints (codes "http://h") (codes "http://h/a") local
    ≡ record local { endpoint = codes "http://h/a"; is_of_signal = true }
own_endpoint = refl
