-- Why an exporter over named pipes wasn't made.
use Rattle.std.specs.Prelude.{◌⊎◌, ⊤}
use Rattle.std.specs.declared.io.Error.{Error}
use Rattle.otel_sdk_base.specs.declared.otlp.EnvOtlp.{EnvOtlp}
use Rattle.otel_otlp.specs.HttpConfig.{NamesEndpoint}
use Rattle.otel_otlp.specs.HttpTexts.{of_env, NamesPiece}
use Rattle.otel_otlp.specs.declared.otlp_http.config.ConfigError.{ConfigError}
use Rattle.otel_otlp.specs.declared.otlp_http.pipes.PipeError.{PipeError}
use Rattle.otel_otlp.specs.declared.otlp_http.pipes.PipeError.TheVariants.{Config, Keys}

-- the error names a piece of the list of headers, or the endpoint, unless there was no memory or
-- there were no keys
abbrev pub NamesFault : EnvOtlp → PipeError → Type 0
NamesFault otlp (Config error) =
    NamesPiece otlp.headers error ⊎ NamesEndpoint (of_env otlp).endpoint error
NamesFault otlp (Keys error) = ⊤

-- a fact about the configuration's error, if it is one
abbrev pub IfConfig : (ConfigError → Type 0) → PipeError → Type 0
IfConfig P (Config error) = P error
IfConfig P (Keys error) = ⊤

-- a fact about the error of the random keys, if it is one
abbrev pub IfKeys : (Error → Type 0) → PipeError → Type 0
IfKeys P (Config error) = ⊤
IfKeys P (Keys error) = P error
