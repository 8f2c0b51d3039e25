-- The severities of the OpenTelemetry logs data model.
use Rattle.std.specs.Prelude.{ℕ, List, codes}
use Rattle.otel_base.specs.declared.severity.Severity.{Severity}
use Rattle.otel_base.specs.declared.severity.Severity.TheVariants.{Trace, Trace2, Trace3, Trace4}
use Rattle.otel_base.specs.declared.severity.Severity.TheVariants.{Debug, Debug2, Debug3, Debug4}
use Rattle.otel_base.specs.declared.severity.Severity.TheVariants.{Info, Info2, Info3, Info4, Warn}
use Rattle.otel_base.specs.declared.severity.Severity.TheVariants.{Warn2, Warn3, Warn4, Error}
use Rattle.otel_base.specs.declared.severity.Severity.TheVariants.{Error2, Error3, Error4, Fatal}
use Rattle.otel_base.specs.declared.severity.Severity.TheVariants.{Fatal2, Fatal3, Fatal4}

-- the severity number (OpenTelemetry logs data model, field SeverityNumber)
abbrev pub number : Severity → ℕ
number Trace = 1
number Trace2 = 2
number Trace3 = 3
number Trace4 = 4
number Debug = 5
number Debug2 = 6
number Debug3 = 7
number Debug4 = 8
number Info = 9
number Info2 = 10
number Info3 = 11
number Info4 = 12
number Warn = 13
number Warn2 = 14
number Warn3 = 15
number Warn4 = 16
number Error = 17
number Error2 = 18
number Error3 = 19
number Error4 = 20
number Fatal = 21
number Fatal2 = 22
number Fatal3 = 23
number Fatal4 = 24

-- the short name (OpenTelemetry logs data model, displaying severity)
abbrev pub name : Severity → List ℕ
name Trace = codes "TRACE"
name Trace2 = codes "TRACE2"
name Trace3 = codes "TRACE3"
name Trace4 = codes "TRACE4"
name Debug = codes "DEBUG"
name Debug2 = codes "DEBUG2"
name Debug3 = codes "DEBUG3"
name Debug4 = codes "DEBUG4"
name Info = codes "INFO"
name Info2 = codes "INFO2"
name Info3 = codes "INFO3"
name Info4 = codes "INFO4"
name Warn = codes "WARN"
name Warn2 = codes "WARN2"
name Warn3 = codes "WARN3"
name Warn4 = codes "WARN4"
name Error = codes "ERROR"
name Error2 = codes "ERROR2"
name Error3 = codes "ERROR3"
name Error4 = codes "ERROR4"
name Fatal = codes "FATAL"
name Fatal2 = codes "FATAL2"
name Fatal3 = codes "FATAL3"
name Fatal4 = codes "FATAL4"
