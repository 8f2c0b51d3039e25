-- The traces of a page.
use Rattle.std.specs.Prelude.{◌≡◌, ℕ, Some, List, [], ◌∷◌, ◌++◌, map, nat_eq}
use Rattle.indexmap.specs.IndexMap.{IndexMap, Updates, keys}
use Rattle.indexmap.specs.IndexSet.{insert_all}
use Rattle.otel_sdk_span.specs.SpanData.{SpanRecord}
use Rattle.otel_view.specs.declared.summary.Summary.{Summary}
use Rattle.otel_waterfall.specs.declared.page.PageTrace.{PageTrace}

-- the ids of the records in their order, each once
abbrev pub ids_of : List Summary → List ℕ
ids_of records = insert_all nat_eq [] (map (λ r. r.id) records)

-- the trace has one more span, of this service, after its others
pub record AddsSpan (service : List ℕ) (span : SpanRecord) (old new : PageTrace) : Type 0 where
  pub trace_id : new.trace_id ≡ old.trace_id
  pub start : new.start ≡ old.start
  pub spans : new.spans.items ≡ old.spans.items ++ record { service = service; «data» = span } ∷ []

-- the span was added to its trace, the other traces are the same, and so is the order of traces
pub record KeepsSpan {S : Type 0} (id : ℕ) (service : List ℕ) (span : SpanRecord)
    (old new : IndexMap ℕ PageTrace S) (trace : PageTrace) : Type 0 where
  pub kept : PageTrace
  pub adds : AddsSpan service span trace kept
  pub updates : Updates nat_eq old new id (Some kept)
  pub order : keys new ≡ keys old
