-- The headers that the environment lists for exports by OTLP.
use Rattle.std.specs.Prelude.{◌≡◌, ℕ, Bool, false, not, ◌&&◌, ◌||◌, ◌==◌, List, [], ◌∷◌, ◌++◌, fold}
use Rattle.std.specs.Prelude.{Option, Some, None, codes, length, refl, if◌then◌else◌}
use Rattle.std.specs.Char.{encode_utf8}
use Rattle.std.specs.List.{flat_map, list_all, list_any}
use Rattle.std.specs.Option.{option_map_or}
use Rattle.std.specs.Str.{is_utf8, chars}
use Rattle.http_header.specs.Token.{is_token_byte, is_value_byte}
use Rattle.percent_encoding.specs.Percent.{percent_decode}
use Rattle.otel_base.specs.Blanks.{cut_blanks}
use Rattle.otel_base.specs.KeyValue.{Attribute}
use Rattle.otel_base.specs.Value as value
use Rattle.otel_base.specs.Value.{AttributeValue}
use Rattle.otel_ids.specs.Text.{is_equals}
use Rattle.otel_sdk_base.specs.ResourceTexts.{from_texts, pieces, written_key}
use Rattle.otel_sdk.specs.EnvTexts.{Variables, is_long, is_named, is_unset, short, text_of}
use Rattle.otel_sdk.specs.EnvTexts.{warned, warning}
use Rattle.otel_sdk.specs.declared.env.warning.EnvFault.TheVariants.{Length}
use Rattle.otel_sdk.specs.declared.env.warning.EnvWarning.{EnvWarning}
use Rattle.otel_sdk.specs.declared.env.warning.Instead.TheVariants.{Nothing, Unset}

-- whether each byte may be in a token
abbrev pub has_token_bytes : List ℕ → Bool
has_token_bytes text = list_all is_token_byte text

-- whether the text is a token, as the name of a header is (RFC 9110, section 5.6.2)
abbrev pub is_token : List ℕ → Bool
is_token text = not (is_unset text) && has_token_bytes text

-- whether the exporter writes the header of this name itself: no configuration sets it
abbrev pub is_reserved : List ℕ → Bool
is_reserved name =
    is_named name (codes "content-type")
    || (is_named name (codes "content-length")
    || (is_named name (codes "transfer-encoding") || is_named name (codes "host")))

-- whether the text has no blank at an end: a header's value is sent without them (RFC 9110, section
-- 5.5)
abbrev pub is_trimmed : List ℕ → Bool
is_trimmed text = length (cut_blanks text) == length text

-- whether each byte may be in a header's value (RFC 9110, section 5.5)
abbrev pub has_value_bytes : List ℕ → Bool
has_value_bytes text = list_all is_value_byte text

-- whether a configuration may set the header of this name and this value
abbrev pub is_allowed : List ℕ → List ℕ → Bool
is_allowed name value =
    not (not (is_token name) || is_reserved name || not (is_trimmed value)) && has_value_bytes value

-- the text of a value
abbrev pub text_in : AttributeValue → List ℕ
text_in (value.text t) = t
text_in _ = []

-- the first of these, if there is one
abbrev pub first : List Attribute → Option Attribute
first [] = None
first (a ∷ more) = Some a

-- whether the piece, read as an attribute of a resource, is a header that a configuration may set:
-- `NAME=VALUE`, with escapes such as `%2C`
abbrev pub is_header : List ℕ → Bool
is_header piece =
    option_map_or (λ a. is_allowed a.0 (text_in a.1)) (first (from_texts piece []).attributes) false

-- the list, followed by the piece
abbrev pub followed_by : List ℕ → List ℕ → List ℕ
followed_by listed piece = if is_unset listed then piece else listed ++ (44 ∷ piece)

-- the list, followed by the piece if that is a header
abbrev pub with_header : List ℕ → List ℕ → List ℕ
with_header listed piece =
    if is_header (cut_blanks piece) then followed_by listed (cut_blanks piece) else listed

-- the list of the pieces that are headers
abbrev pub headers_in : List ℕ → List ℕ
headers_in text = fold with_header [] (pieces text)

-- the piece as a warning shows it: the name, without the value
abbrev pub shown : List ℕ → List ℕ
shown piece =
    if list_any is_equals piece
    then (if is_unset (written_key piece) then codes "=" else written_key piece)
    else piece

-- the warning about a piece that isn't a header
abbrev pub piece_warnings : List ℕ → List ℕ → List EnvWarning
piece_warnings name piece =
    warned (is_header (cut_blanks piece)) name (shown (cut_blanks piece)) Nothing

-- the warnings about the pieces of a variable's text
abbrev pub list_warnings : List ℕ → List ℕ → List EnvWarning
list_warnings name text = flat_map (piece_warnings name) (pieces text)

-- the same, or the warning about a text that is too long
abbrev pub text_warnings : List ℕ → List ℕ → List EnvWarning
text_warnings name text =
    warned (not (is_long text)) name (codes "..") (Unset Length) ++ list_warnings name (short text)

-- the warnings about a variable
abbrev pub variable_warnings : List ℕ → Variables → List EnvWarning
variable_warnings name vars = text_warnings name (text_of name vars)

-- the warnings about all headers
abbrev pub header_warnings : Variables → List EnvWarning
header_warnings vars =
    variable_warnings (codes "OTEL_EXPORTER_OTLP_HEADERS") vars
    ++ variable_warnings (codes "OTEL_EXPORTER_OTLP_TRACES_HEADERS") vars
    ++ variable_warnings (codes "OTEL_EXPORTER_OTLP_LOGS_HEADERS") vars

-- ---- worked rows
header_example : headers_in (codes " api-key = x%2C , a b=1,c, d=2") ≡ codes "api-key = x%2C,d=2"
unfolding is_token_byte percent_decode is_utf8 chars encode_utf8
header_example = refl

refused_example : headers_in (codes "Host=x,a=%zz,b=%20x,c=x%0D,d=") ≡ codes "d="
unfolding is_token_byte percent_decode is_utf8 chars encode_utf8
refused_example = refl

warning_example : list_warnings (codes "H") (codes "a b=1,,c=3,=d,e")
    ≡ warning (codes "H") (codes "a b") Nothing ∷ warning (codes "H") (codes "=") Nothing
    ∷ warning (codes "H") (codes "e") Nothing ∷ []
unfolding is_token_byte percent_decode is_utf8 chars encode_utf8
warning_example = refl
