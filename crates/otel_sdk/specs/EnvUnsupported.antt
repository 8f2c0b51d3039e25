-- The variables of the OpenTelemetry specification ("Environment Variable Specification",
-- "OpenTelemetry Protocol Exporter") that the SDK doesn't support, or supports in part.
use Rattle.std.specs.Prelude.{◌≡◌, ℕ, false, List, [], ◌∷◌, ◌++◌, codes, refl}
use Rattle.std.specs.List.{flat_map}
use Rattle.std.specs.Str.Lines.{lines}
use Rattle.otel_sdk.specs.EnvTexts.{Variables, is_named, text_of, warned, warning}
use Rattle.otel_sdk.specs.declared.env.unsupported.TheConstants.{UNSUPPORTED}
use Rattle.otel_sdk.specs.declared.env.warning.EnvFault.TheVariants.{Unsupported}
use Rattle.otel_sdk.specs.declared.env.warning.EnvWarning.{EnvWarning}
use Rattle.otel_sdk.specs.declared.env.warning.Instead.TheVariants.{HttpJson, Unset}

-- ---- supported in part

-- there is only one protocol
abbrev pub protocol_warnings : List ℕ → Variables → List EnvWarning
protocol_warnings name vars =
    warned (is_named (text_of name vars) (codes "http/json")) name (text_of name vars) HttpJson

abbrev pub all_protocol_warnings : Variables → List EnvWarning
all_protocol_warnings vars =
    protocol_warnings (codes "OTEL_EXPORTER_OTLP_PROTOCOL") vars
    ++ protocol_warnings (codes "OTEL_EXPORTER_OTLP_TRACES_PROTOCOL") vars
    ++ protocol_warnings (codes "OTEL_EXPORTER_OTLP_LOGS_PROTOCOL") vars

-- there is no compression
abbrev pub compression_warnings : List ℕ → Variables → List EnvWarning
compression_warnings name vars =
    warned (is_named (text_of name vars) (codes "none")) name (text_of name vars)
    (Unset Unsupported)

abbrev pub all_compression_warnings : Variables → List EnvWarning
all_compression_warnings vars =
    compression_warnings (codes "OTEL_EXPORTER_OTLP_COMPRESSION") vars
    ++ compression_warnings (codes "OTEL_EXPORTER_OTLP_TRACES_COMPRESSION") vars
    ++ compression_warnings (codes "OTEL_EXPORTER_OTLP_LOGS_COMPRESSION") vars

-- ---- not supported

-- the warning about a variable that is set
abbrev pub variable_warnings : Variables → List ℕ → List EnvWarning
variable_warnings vars name = warned false name (text_of name vars) (Unset Unsupported)

-- the warnings about the variables of these names
abbrev pub names_warnings : List (List ℕ) → Variables → List EnvWarning
names_warnings names vars = flat_map (variable_warnings vars) names

-- the warnings about all of these
abbrev pub unsupported_warnings : Variables → List EnvWarning
unsupported_warnings vars =
    all_protocol_warnings vars ++ all_compression_warnings vars
    ++ names_warnings (lines UNSUPPORTED.now) vars

-- ---- worked rows
variable_example : names_warnings (codes "A" ∷ codes "B" ∷ []) ((codes "B", codes "1") ∷ [])
    ≡ warning (codes "B") (codes "1") (Unset Unsupported) ∷ []
variable_example = refl

compression_example :
    (compression_warnings (codes "C") ((codes "C", codes "None") ∷ []) ≡ [])
    × (compression_warnings (codes "C") ((codes "C", codes "gzip") ∷ [])
    ≡ warning (codes "C") (codes "gzip") (Unset Unsupported) ∷ [])
compression_example = (refl, refl)

-- the variables that aren't supported
unsupported_names : lines UNSUPPORTED.now
    ≡ codes "OTEL_CONFIG_FILE"
    ∷ codes "OTEL_LOG_LEVEL"
    ∷ codes "OTEL_LOGRECORD_ATTRIBUTE_VALUE_LENGTH_LIMIT"
    ∷ codes "OTEL_EXPORTER_OTLP_TRACES_TIMEOUT"
    ∷ codes "OTEL_EXPORTER_OTLP_LOGS_TIMEOUT"
    ∷ codes "OTEL_EXPORTER_OTLP_INSECURE"
    ∷ codes "OTEL_EXPORTER_OTLP_TRACES_INSECURE"
    ∷ codes "OTEL_EXPORTER_OTLP_LOGS_INSECURE"
    ∷ codes "OTEL_EXPORTER_OTLP_CERTIFICATE"
    ∷ codes "OTEL_EXPORTER_OTLP_TRACES_CERTIFICATE"
    ∷ codes "OTEL_EXPORTER_OTLP_LOGS_CERTIFICATE"
    ∷ codes "OTEL_EXPORTER_OTLP_CLIENT_KEY"
    ∷ codes "OTEL_EXPORTER_OTLP_TRACES_CLIENT_KEY"
    ∷ codes "OTEL_EXPORTER_OTLP_LOGS_CLIENT_KEY"
    ∷ codes "OTEL_EXPORTER_OTLP_CLIENT_CERTIFICATE"
    ∷ codes "OTEL_EXPORTER_OTLP_TRACES_CLIENT_CERTIFICATE"
    ∷ codes "OTEL_EXPORTER_OTLP_LOGS_CLIENT_CERTIFICATE"
    ∷ []
unsupported_names = refl
