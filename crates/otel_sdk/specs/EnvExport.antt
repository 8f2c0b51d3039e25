-- What the environment says of the whole SDK, of resources and of exporters.
use Rattle.std.specs.Prelude.{◌≡◌, ℕ, Bool, true, false, not, ◌||◌, ◌&&◌, List, [], ◌∷◌}
use Rattle.std.specs.Prelude.{Option, Some, None, is_some, codes, refl, if◌then◌else◌}
use Rattle.std.specs.Option.{unwrap_or}
use Rattle.otel_sdk_base.specs.ResourceTexts.{fault}
use Rattle.otel_sdk.specs.EnvHeaders.{headers_in}
use Rattle.otel_sdk.specs.EnvTexts.{Variables, is_named, is_unset, short, text_of}
use Rattle.otel_sdk.specs.EnvTexts.{warned, warning}
use Rattle.otel_sdk.specs.EnvTexts.{number_or, number_warnings}
use Rattle.otel_sdk_base.specs.declared.otlp.EnvEndpoint.{EnvEndpoint}
use Rattle.otel_sdk_base.specs.declared.otlp.EnvEndpoint.TheVariants.{Base, Exact}
use Rattle.otel_sdk.specs.declared.env.endpoints.EndpointFaults.{EndpointFaults}
use Rattle.otel_sdk.specs.declared.env.export.EnvExporter.{EnvExporter}
use Rattle.otel_sdk.specs.declared.env.export.EnvExporter.TheVariants as to
use Rattle.otel_sdk_base.specs.declared.otlp.EnvOtlp.{EnvOtlp}
use Rattle.otel_sdk.specs.declared.env.warning.EnvFault.{EnvFault}
use Rattle.otel_sdk.specs.declared.env.warning.EnvFault.TheVariants.{UserInfo, Scheme}
use Rattle.otel_sdk.specs.declared.env.warning.EnvWarning.{EnvWarning}
use Rattle.otel_sdk.specs.declared.env.warning.Instead.TheVariants.{Nothing, False, Otlp}

-- ---- whether the SDK is disabled

-- whether the text is `true`, or `false`, in any case
abbrev pub is_true : List ℕ → Bool
is_true text = is_named text (codes "true")

abbrev pub is_false : List ℕ → Bool
is_false text = is_named text (codes "false")

abbrev pub is_switch : List ℕ → Bool
is_switch text = is_true text || is_false text

abbrev pub is_disabled : Variables → Bool
is_disabled vars = is_true (text_of (codes "OTEL_SDK_DISABLED") vars)

abbrev pub disabled_warnings : Variables → List EnvWarning
disabled_warnings vars = warned (is_switch (text_of (codes "OTEL_SDK_DISABLED") vars))
    (codes "OTEL_SDK_DISABLED") (text_of (codes "OTEL_SDK_DISABLED") vars) False

-- ---- resources

abbrev pub service_name : Variables → List ℕ
service_name vars = text_of (codes "OTEL_SERVICE_NAME") vars

abbrev pub resource_attributes : Variables → List ℕ
resource_attributes vars = text_of (codes "OTEL_RESOURCE_ATTRIBUTES") vars

-- the warning about a list with a faulty piece, none of whose attributes counts
abbrev pub resource_warnings : Variables → List EnvWarning
resource_warnings vars = warned (not (is_some (fault (resource_attributes vars))))
    (codes "OTEL_RESOURCE_ATTRIBUTES") (resource_attributes vars) Nothing

-- ---- exporters

-- the exporter of the name, in any case
abbrev pub named : List ℕ → Option EnvExporter
named text =
    if is_named text (codes "otlp") then Some to.Otlp
    else (if is_named text (codes "console") then Some to.Console
    else (if is_named text (codes "none") then Some to.Nothing else None))

-- whether spans or log records are exported
abbrev pub exports : EnvExporter → Bool
exports to.Otlp = true
exports to.Console = true
exports to.Nothing = false

-- the exporter that the variable names, or OTLP
abbrev pub exporter : List ℕ → Variables → EnvExporter
exporter name vars = unwrap_or (named (text_of name vars)) to.Otlp

abbrev pub exporter_warnings : List ℕ → Variables → List EnvWarning
exporter_warnings name vars =
    warned (is_some (named (text_of name vars))) name (text_of name vars) Otlp

-- ---- OTLP

-- the text, or the default if it is empty
abbrev pub given_or : List ℕ → List ℕ → List ℕ
given_or text default = if is_unset text then default else text

-- whether the endpoint of this text, with this fault, counts
abbrev pub counts : Option EnvFault → List ℕ → Bool
counts fault text = not (is_some fault) && not (is_unset text)

-- the endpoint of a signal: its own as it is, or the one of all signals as a base, or the collector
-- on the same machine
abbrev pub endpoint : List ℕ → Option EnvFault → Option EnvFault → Variables → EnvEndpoint
endpoint own fault fault_of_all vars =
    if counts fault (text_of own vars) then Exact (text_of own vars)
    else Base (if counts fault_of_all (text_of (codes "OTEL_EXPORTER_OTLP_ENDPOINT") vars)
    then text_of (codes "OTEL_EXPORTER_OTLP_ENDPOINT") vars else codes "http://localhost:4318")

-- the headers of a signal: its own, or the ones of all signals
abbrev pub headers : List ℕ → Variables → List ℕ
headers own vars =
    headers_in (given_or (short (text_of own vars))
    (short (text_of (codes "OTEL_EXPORTER_OTLP_HEADERS") vars)))

-- where spans, and log records, are sent, if these faults are found in the endpoints
abbrev pub otlp_traces : EndpointFaults → Variables → EnvOtlp
otlp_traces faults vars = record {
  endpoint =
      endpoint (codes "OTEL_EXPORTER_OTLP_TRACES_ENDPOINT") faults.traces faults.all vars;
  headers = headers (codes "OTEL_EXPORTER_OTLP_TRACES_HEADERS") vars;
}

abbrev pub otlp_logs : EndpointFaults → Variables → EnvOtlp
otlp_logs faults vars = record {
  endpoint = endpoint (codes "OTEL_EXPORTER_OTLP_LOGS_ENDPOINT") faults.logs faults.all vars;
  headers = headers (codes "OTEL_EXPORTER_OTLP_LOGS_HEADERS") vars;
}

abbrev pub timeout_millis : Variables → ℕ
timeout_millis vars = number_or (codes "OTEL_EXPORTER_OTLP_TIMEOUT") 0 10000 vars

abbrev pub timeout_warnings : Variables → List EnvWarning
timeout_warnings vars = number_warnings (codes "OTEL_EXPORTER_OTLP_TIMEOUT") 0 10000 vars

-- ---- worked rows
abbrev one : List ℕ → List ℕ → Variables
one name text = (name, text) ∷ []

disabled_example : (is_disabled (one (codes "OTEL_SDK_DISABLED") (codes "TRUE")) ≡ true)
    × (disabled_warnings (one (codes "OTEL_SDK_DISABLED") (codes "TRUE")) ≡ [])
    × (is_disabled (one (codes "OTEL_SDK_DISABLED") (codes "1")) ≡ false)
    × (disabled_warnings (one (codes "OTEL_SDK_DISABLED") (codes "1"))
    ≡ warning (codes "OTEL_SDK_DISABLED") (codes "1") False ∷ [])
disabled_example = (refl, refl, refl, refl)

-- the endpoint of all signals, and the one of a signal
abbrev both : Variables
both =
    (codes "OTEL_EXPORTER_OTLP_ENDPOINT", codes "http://h")
    ∷ (codes "T", codes "http://h/a") ∷ []

endpoint_example : (endpoint (codes "T") None None both ≡ Exact (codes "http://h/a"))
    × (endpoint (codes "T") (Some UserInfo) None both ≡ Base (codes "http://h"))
    × (endpoint (codes "T") (Some UserInfo) (Some Scheme) both
    ≡ Base (codes "http://localhost:4318"))
    × (endpoint (codes "T") None None [] ≡ Base (codes "http://localhost:4318"))
endpoint_example = (refl, refl, refl, refl)
