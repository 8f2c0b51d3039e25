-- Endpoints that have no target.
use Rattle.std.proofs.Common.{◌≡◌, ℕ, ◌==◌, ◌||◌, not, if◌then◌else◌, Bool, true, false, List, [], length, Option, is_some, eqb, sym, ap, ◌∙◌, true≢false}
use Rattle.std.specs.List.{ends_with}
use Rattle.http_uri.specs.Uri.{Spells, uri_scheme, uri_data, uri_path}
use Rattle.http_uri.specs.Grammar.{path_of}
use Rattle.http_uri.specs.declared.uri.Uri.{Uri}
use Rattle.http_uri.proofs.Theorems.{Spells_unique}
use Rattle.otel_otlp.specs.HttpConfig.{joined, HasNoTarget, IfEndpoint}
use Rattle.otel_otlp.specs.declared.otlp_http.config.ConfigError.{ConfigError}
use Rattle.otel_otlp.specs.declared.otlp_http.config.ConfigError.TheVariants as error

-- an error that names an endpoint says what holds anyway
pub endpoint_if : (P : Type 0) (e : ConfigError) → P → IfEndpoint P e
endpoint_if P (error.Endpoint text) h = h
endpoint_if P (error.Header text) h = tt
endpoint_if P (error.HeaderList piece) h = tt
endpoint_if P (error.Memory failed) h = tt

-- the path that a URI of these parts shows
path_by : Option (List ℕ) → List ℕ → List ℕ
path_by scheme data_ = if not (length data_ == 0) || is_some scheme then path_of data_ else []

-- the text spells one URI only
pub no_scheme : (endpoint path : List ℕ) (uri : Uri) → Spells (joined endpoint path) uri → is_some (uri_scheme uri) ≡ false → HasNoTarget endpoint path
no_scheme endpoint path uri is none = λ other t.
    let same = Spells_unique _ other uri t.text is in
    true≢false (sym t.scheme ∙ ap is_some same.0 ∙ none)

pub other_path : (endpoint path : List ℕ) (uri : Uri) → Spells (joined endpoint path) uri → ends_with eqb (uri_path uri) path ≡ false → HasNoTarget endpoint path
unfolding path_by
other_path endpoint path uri is other_end = λ other t.
    let same = Spells_unique _ other uri t.text is in
    let paths : uri_path other ≡ uri_path uri = ap (λ s. path_by s (uri_data other)) same.0 ∙ ap (path_by (uri_scheme uri)) same.2 in
    true≢false (sym t.end ∙ ap (λ p. ends_with eqb p path) paths ∙ other_end)
