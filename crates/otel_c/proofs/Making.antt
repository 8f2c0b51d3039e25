-- The parts of a call's change of a context make up the whole.
use Rattle.std.proofs.Common.{◌≡◌, ◌∙◌, ℕ, List, Option, Some, Result, Ok, Err, OnOk, ap, subst}
use Rattle.otel_ids.specs.SpanContext.{SpanContextRecord}
use Rattle.otel_ids.specs.TraceState.{Pair}
use Rattle.otel_context.specs.Context.{ContextRecord, span_context, with_remote_span_context}
use Rattle.otel_c.specs.declared.object.Object.{Object}
use Rattle.otel_c.specs.declared.span.SpanParts.{SpanParts}
use Rattle.otel_c.specs.declared.status.Status.{Status}
use Rattle.otel_c.specs.Member.{GivesFrom}
use Rattle.otel_c.specs.Object.{context_of}
use Rattle.otel_c.specs.Pair.{with_state, InsertsSendable, SetsPair}
use Rattle.otel_c.specs.Span.{span_of, SetsSpan, ReadsSendable}

pub sets_span : {A : Type 0} (r : Result A Status) (parts : SpanParts) (received : List ℕ)
    (old new : Option Object) (before made : ContextRecord) (pairs : List Pair)
    (span : SpanContextRecord) → context_of old ≡ Some before → ReadsSendable received pairs
    → span ≡ span_of parts pairs → made ≡ with_remote_span_context before span
    → OnOk r (context_of new ≡ Some made) → OnOk r (SetsSpan parts received old new)
sets_span (Ok v) parts received old new before made pairs span from reads is made_is into = record {
  context = before;
  pairs = pairs;
  from = from;
  reads = reads;
  into = into ∙ ap Some (made_is ∙ ap (with_remote_span_context before) is);
}
sets_span (Err s) parts received old new before made pairs span from reads is made_is h = h

pub sets_pair : (object : Option Object) (before made : ContextRecord) (key value : List ℕ)
    (span wanted : SpanContextRecord) (held pairs : List Pair) → context_of object ≡ Some before
    → span ≡ span_context before → held ≡ span.trace_state → InsertsSendable key value held pairs
    → wanted ≡ with_state span pairs → made ≡ with_remote_span_context before wanted
    → GivesFrom (SetsPair key value) object made
sets_pair object before made key value span wanted held pairs from is state inserts is_with made_is =
    record {
      context = before;
      from = from;
      is = record {
        pairs = pairs;
        inserts = subst (λ (ps : List Pair). InsertsSendable key value ps pairs)
            (state ∙ ap (λ (s : SpanContextRecord). s.trace_state) is) inserts;
        is = made_is ∙ ap (with_remote_span_context before)
            (is_with ∙ ap (λ (s : SpanContextRecord). with_state s pairs) is);
      };
    }
