-- Batches whose bytes are equal say the same.
use Rattle.std.specs.Prelude.{◌≡◌, List}
use Rattle.std.specs.List.{All}
use Rattle.otel_sdk_base.specs.Resource.{Parts}
use Rattle.otel_proto.specs.Laws.{AreShort}
use Rattle.otel_proto.specs.Written.{bytes_of}
use Rattle.otel_proto_batches.specs.Facts.{batch_facts, span_facts}
use Rattle.otel_proto_batches.specs.Groups.{Form, request}
use Rattle.otel_proto_batches.specs.InRange.{AreInRange, IsInRange}
use Rattle.otel_proto_batches.specs.LogFacts.{record_facts}
use Rattle.otel_proto_batches.specs.Logs as logs
use Rattle.otel_proto_batches.specs.LogsInRange.{IsEntryInRange}
use Rattle.otel_proto_batches.specs.Traces as traces

-- batches of a form with the same bytes have the same facts, if their numbers fit their types
abbrev pub EqualBatchesSaySame : {R F : Type 0} → Form R → (R → F) → (R → Type 0) → Type 0
EqualBatchesSaySame {R} form facts InRange =
    (r q : Parts) (xs ys : List R) → AreInRange r.attributes → AreInRange q.attributes
    → All InRange xs → All InRange ys → AreShort (request form r xs)
    → bytes_of (request form r xs) ≡ bytes_of (request form q ys)
    → batch_facts form.scope_of facts r xs ≡ batch_facts form.scope_of facts q ys

-- batches of spans
abbrev pub EqualTracesSaySame : Type 0
EqualTracesSaySame = EqualBatchesSaySame traces.form span_facts IsInRange

-- batches of log records
abbrev pub EqualLogsSaySame : Type 0
EqualLogsSaySame = EqualBatchesSaySame logs.form record_facts IsEntryInRange
