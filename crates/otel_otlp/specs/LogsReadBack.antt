-- What is read from a line of log records that the exporter writes.
use Rattle.std.specs.Prelude.{◌≤◌, List}
use Rattle.otel_sdk_base.specs.Resource.{Parts}
use Rattle.otel_sdk_logs.specs.LogRecord.{LogEntry}
use Rattle.otel_otlp.specs.Json.{IsTextOf}
use Rattle.otel_otlp.specs.Logs.{form, logs_data}
use Rattle.otel_otlp.specs.ReadBack.{GroupsReadBack, ItemsReadBack}
use Rattle.otel_otlp.specs.ReadBackLogs.{IsHeldEntry, read_entry}
use Rattle.otel_otlp.specs.ReadLogs.{IsEntry}
use Rattle.serde_json.specs.Data.{depth}
use Rattle.serde_json.specs.Read.{max_depth}

-- ---- there and back
-- from the text of a batch of log records exactly that is read
abbrev pub RecordBatchesReadBack : Type 0
RecordBatchesReadBack = GroupsReadBack form read_entry IsEntry IsHeldEntry IsTextOf

-- the same without the resources
abbrev pub RecordsReadBack : Type 0
RecordsReadBack = ItemsReadBack form read_entry IsEntry IsHeldEntry IsTextOf

-- ---- depth
-- the value of a batch of log records nests no deeper than a reader of JSON accepts
abbrev pub RecordBatchesAreShallow : Type 0
RecordBatchesAreShallow = (r : Parts) (es : List LogEntry) → depth (logs_data r es) ≤ max_depth
