-- A text that belongs to two batches.
use Rattle.std.proofs.Common.{◌≤◌, List, sym, ap, ◌∙◌, arith}
use Rattle.otel_sdk_base.specs.Resource.{Parts}
use Rattle.otel_sdk_span.specs.SpanData.{SpanRecord}
use Rattle.serde_json.specs.Data.{depth}
use Rattle.serde_json.specs.Read.{max_depth}
use Rattle.otel_otlp.specs.Lossless.{EqualTextsSaySame}
use Rattle.otel_otlp.specs.Traces.{traces_data}
use Rattle.otel_otlp.proofs.Nesting.{batch_depth}
use Rattle.otel_otlp.proofs.OneBatch.{equal_batches_say_same}
use Rattle.otel_otlp.proofs.OneGroup.{inside}

pub is_read : (r : Parts) (ss : List SpanRecord) → depth (traces_data r ss) ≤ max_depth
is_read r ss = let inner = batch_depth r ss in omega (arith, inner)

pub equal_texts_say_same : EqualTextsSaySame
equal_texts_say_same text r q ss ts in_r in_q in_ss in_ts h g =
    equal_batches_say_same r q ss ts in_r in_q in_ss in_ts (ap inside (sym (h.reads_back (is_read r ss)) ∙ g.reads_back (is_read q ts)))
