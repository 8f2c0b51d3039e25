-- The values that contracts see for the groups that are read.
use Rattle.otel_sdk_span.specs.SpanData.{SpanRecord}
use Rattle.otel_otlp.specs.ReadGroups.{ResourceItems}
use Rattle.otel_sdk_logs.specs.LogRecord.{LogEntry}
use Rattle.otel_otlp.specs.declared.read.logs.ResourceLogs.{ResourceLogs}
use Rattle.otel_otlp.specs.declared.read.traces.ResourceSpans.{ResourceSpans}

-- the resource with the spans
abbrev pub spans_of : ResourceSpans → ResourceItems SpanRecord
spans_of g = record { resource = g.resource; items = g.spans.items }

-- the resource with the log records
abbrev pub records_of : ResourceLogs → ResourceItems LogEntry
records_of g = record { resource = g.resource; items = g.records.items }
