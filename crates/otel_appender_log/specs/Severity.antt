-- The severities of levels.
use Rattle.std.specs.Prelude.{◌≡◌, refl}
use Rattle.log.specs.declared.level.Level.{Level}
use Rattle.log.specs.declared.level.Level.TheVariants.{Error, Warn, Info, Debug, Trace}
use Rattle.log.specs.Level.{level_name}
use Rattle.otel_base.specs.declared.severity.Severity.{Severity}
use Rattle.otel_base.specs.declared.severity.Severity.TheVariants as severity
use Rattle.otel_base.specs.Severity.{name, number}

-- the first severity in the range with the level's name (OpenTelemetry logs data model, "Mapping of
-- SeverityNumber"; `severity_of_level` of `opentelemetry-appender-log`)
abbrev pub severity_of : Level → Severity
severity_of Error = severity.Error
severity_of Warn = severity.Warn
severity_of Info = severity.Info
severity_of Debug = severity.Debug
severity_of Trace = severity.Trace

-- ---- worked rows
number-of_error : number (severity_of Error) ≡ 17
number-of_error = refl

number-of_warn : number (severity_of Warn) ≡ 13
number-of_warn = refl

number-of_info : number (severity_of Info) ≡ 9
number-of_info = refl

number-of_debug : number (severity_of Debug) ≡ 5
number-of_debug = refl

number-of_trace : number (severity_of Trace) ≡ 1
number-of_trace = refl

-- the text of a level's severity is the level's name
pub name-severity_of : (level : Level) → name (severity_of level) ≡ level_name level
name-severity_of Error = refl
name-severity_of Warn = refl
name-severity_of Info = refl
name-severity_of Debug = refl
name-severity_of Trace = refl
