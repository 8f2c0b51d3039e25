-- Which variables are read from an environment, and what is read.
use Rattle.std.specs.Prelude.{◌≡◌, ℕ, ◌==◌, List, [], ◌∷◌, ◌++◌, Option, Some, None, codes, refl}
use Rattle.std.specs.Prelude.{if◌then◌else◌}
use Rattle.std.specs.List.{flat_map, before_first}
use Rattle.std.specs.Str.{bytes_eq}
use Rattle.std.specs.Str.Lines.{lines}
use Rattle.otel_sdk.specs.EnvTexts.{Variables, is_unset}
use Rattle.otel_sdk.specs.declared.env.help.TheConstants.{HELP}

-- ---- names

-- the text before the first blank
abbrev pub first_word : List ℕ → List ℕ
first_word line = before_first (λ b. b == 32) line

-- the name of the variable that the line of a help describes; a line that begins with a blank goes
-- on with the line before, and has none
abbrev pub name_in : List ℕ → List (List ℕ)
name_in line = if is_unset (first_word line) then [] else first_word line ∷ []

-- the names of the variables that the help describes, in order
abbrev pub names_in : List ℕ → List (List ℕ)
names_in help = flat_map name_in (lines help)

-- ---- what is read

-- the variable with its text, if it is set
abbrev pub if_set : List ℕ → Option (List ℕ) → Variables
if_set name None = []
if_set name (Some text) = (name, text) ∷ []

-- The variables of these names that are set, in order, each with its text. `may_be` says what the
-- variable of a name may be, not set or this text; only a reading of the variable shows it.
unfoldable pub AreRead : (List ℕ → Option (List ℕ) → Type 0) → List (List ℕ) → Variables → Type 0
AreRead may_be [] vars = vars ≡ []
AreRead may_be (name ∷ names) vars = (text : Option (List ℕ)) × (rest : Variables)
    × may_be name text × (vars ≡ if_set name text ++ rest) × AreRead may_be names rest

-- ---- worked rows
names_example : names_in (codes "A  TEXT\nLONGER  TEXT\n        (default)\nB  1 or 2\n")
    ≡ codes "A" ∷ codes "LONGER" ∷ codes "B" ∷ []
names_example = refl

-- `A` is 7, and no other variable is set
abbrev pub an_environment : List ℕ → Option (List ℕ)
an_environment name = if bytes_eq name (codes "A") then Some (codes "7") else None

read_example : AreRead (λ name text. text ≡ an_environment name) (codes "B" ∷ codes "A" ∷ [])
    ((codes "A", codes "7") ∷ [])
unfolding AreRead
read_example = (None, _, refl, refl, (Some (codes "7"), [], refl, refl, refl))

-- the variables of `EnvConfig::HELP`
help_names : names_in HELP.now
    ≡ codes "OTEL_SDK_DISABLED"
    ∷ codes "OTEL_SERVICE_NAME"
    ∷ codes "OTEL_RESOURCE_ATTRIBUTES"
    ∷ codes "OTEL_PROPAGATORS"
    ∷ codes "OTEL_TRACES_SAMPLER"
    ∷ codes "OTEL_TRACES_SAMPLER_ARG"
    ∷ codes "OTEL_ATTRIBUTE_COUNT_LIMIT"
    ∷ codes "OTEL_ATTRIBUTE_VALUE_LENGTH_LIMIT"
    ∷ codes "OTEL_SPAN_EVENT_COUNT_LIMIT"
    ∷ codes "OTEL_SPAN_ATTRIBUTE_COUNT_LIMIT"
    ∷ codes "OTEL_SPAN_LINK_COUNT_LIMIT"
    ∷ codes "OTEL_EVENT_ATTRIBUTE_COUNT_LIMIT"
    ∷ codes "OTEL_LINK_ATTRIBUTE_COUNT_LIMIT"
    ∷ codes "OTEL_SPAN_ATTRIBUTE_VALUE_LENGTH_LIMIT"
    ∷ codes "OTEL_LOGRECORD_ATTRIBUTE_COUNT_LIMIT"
    ∷ codes "OTEL_BSP_MAX_QUEUE_SIZE"
    ∷ codes "OTEL_BSP_MAX_EXPORT_BATCH_SIZE"
    ∷ codes "OTEL_BSP_SCHEDULE_DELAY"
    ∷ codes "OTEL_BSP_EXPORT_TIMEOUT"
    ∷ codes "OTEL_BLRP_MAX_QUEUE_SIZE"
    ∷ codes "OTEL_BLRP_MAX_EXPORT_BATCH_SIZE"
    ∷ codes "OTEL_BLRP_SCHEDULE_DELAY"
    ∷ codes "OTEL_BLRP_EXPORT_TIMEOUT"
    ∷ codes "OTEL_TRACES_EXPORTER"
    ∷ codes "OTEL_LOGS_EXPORTER"
    ∷ codes "OTEL_EXPORTER_OTLP_ENDPOINT"
    ∷ codes "OTEL_EXPORTER_OTLP_TRACES_ENDPOINT"
    ∷ codes "OTEL_EXPORTER_OTLP_LOGS_ENDPOINT"
    ∷ codes "OTEL_EXPORTER_OTLP_HEADERS"
    ∷ codes "OTEL_EXPORTER_OTLP_TRACES_HEADERS"
    ∷ codes "OTEL_EXPORTER_OTLP_LOGS_HEADERS"
    ∷ codes "OTEL_EXPORTER_OTLP_TIMEOUT"
    ∷ codes "OTEL_EXPORTER_OTLP_PROTOCOL"
    ∷ codes "OTEL_EXPORTER_OTLP_TRACES_PROTOCOL"
    ∷ codes "OTEL_EXPORTER_OTLP_LOGS_PROTOCOL"
    ∷ codes "OTEL_EXPORTER_OTLP_COMPRESSION"
    ∷ codes "OTEL_EXPORTER_OTLP_TRACES_COMPRESSION"
    ∷ codes "OTEL_EXPORTER_OTLP_LOGS_COMPRESSION"
    ∷ []
help_names = refl
