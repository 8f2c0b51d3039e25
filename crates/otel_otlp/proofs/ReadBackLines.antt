-- What a line of spans, and one of log records, that the exporter writes is read as.
use Rattle.std.proofs.Common.{refl}
use Rattle.otel_otlp.specs.Json.{IsTextOf}
use Rattle.otel_otlp.specs.Logs as logs
use Rattle.otel_otlp.specs.LogsReadBack.{RecordBatchesReadBack, RecordsReadBack}
use Rattle.otel_otlp.specs.ReadBack.{IsHeld, read_span, BatchesReadBack, SpansReadBack}
use Rattle.otel_otlp.specs.ReadBackLogs.{IsHeldEntry, read_entry}
use Rattle.otel_otlp.specs.ReadLogs.{IsEntry}
use Rattle.otel_otlp.specs.ReadTraces.{IsSpan}
use Rattle.otel_otlp.specs.Traces as traces
use Rattle.otel_otlp.proofs.GroupMembers.{IsNamed}
use Rattle.otel_otlp.proofs.OneGroup.{spans_named}
use Rattle.otel_otlp.proofs.OneText.{is_read}
use Rattle.otel_otlp.proofs.ReadBackEntries.{entry_says, entry_only}
use Rattle.otel_otlp.proofs.ReadBackGroups as groups
use Rattle.otel_otlp.proofs.ReadBackSpans.{span_says, span_only}
use Rattle.otel_otlp.proofs.RecordNesting.{record_batches_are_shallow}

-- ---- spans
pub batches_read_back : BatchesReadBack
batches_read_back =
    groups.groups_read_back traces.form read_span IsSpan IsHeld spans_named (λ s h. h.in_range.scope) (λ scope s. refl)
    span_says span_only IsTextOf (λ line r ss text. text.reads_back (is_read r ss))

pub spans_read_back : SpansReadBack
spans_read_back =
    groups.items_read_back traces.form read_span IsSpan IsHeld spans_named (λ s h. h.in_range.scope) (λ scope s. refl)
    span_says span_only IsTextOf (λ line r ss text. text.reads_back (is_read r ss))

-- ---- log records
records_named : IsNamed logs.form
records_named = record {
  items = record { value_list = refl; value_url = refl; list_url = refl; url_value = refl; url_list = refl };
  scopes = record { value_list = refl; value_url = refl; list_url = refl; url_value = refl; url_list = refl };
}

pub record_batches_read_back : RecordBatchesReadBack
record_batches_read_back =
    groups.groups_read_back logs.form read_entry IsEntry IsHeldEntry records_named (λ e h. h.scope_in_range)
    (λ scope e. refl) entry_says entry_only IsTextOf (λ line r es text. text.reads_back (record_batches_are_shallow r es))

pub records_read_back : RecordsReadBack
records_read_back =
    groups.items_read_back logs.form read_entry IsEntry IsHeldEntry records_named (λ e h. h.scope_in_range)
    (λ scope e. refl) entry_says entry_only IsTextOf (λ line r es text. text.reads_back (record_batches_are_shallow r es))
