-- A span that records is a span that starts.
use Rattle.std.proofs.Common.{◌≡◌, ℕ, Bool, true, false, Option, subst, ◌∙◌}
use Rattle.otel_base.specs.InstrumentationScope.{Scope}
use Rattle.otel_context.specs.Context.{ContextRecord}
use Rattle.otel_ids.specs.SpanContext.{SpanContextRecord}
use Rattle.opentelemetry.specs.SpanBuilder.{BuilderRecord}
use Rattle.otel_sdk.specs.Sampler.{Asked, Answer}
use Rattle.otel_sdk_span.specs.Span.{SpanState}
use Rattle.otel_sdk.specs.Tracer.{Records, StartsWith, asked, has_random_id, parent_of, records, span_context_of}
use Rattle.otel_sdk_span.specs.declared.limits.SpanLimits.{SpanLimits}

module _ (answer : Asked → Answer) (random : Bool) (may_show : ℕ → Type 0) (limits : SpanLimits) (scope : Scope) (builder : BuilderRecord) (context : ContextRecord) (t s : ℕ) where
  pub recorded : (a : Answer) (parent : Option SpanContextRecord) (own : SpanContextRecord) (span : SpanState) → a ≡ answer (asked builder context t) → records a.decision ≡ true → parent ≡ parent_of context
      → own ≡ span_context_of t s a.decision (has_random_id parent random) a.trace_state
      → Records may_show limits scope builder parent own a.attributes span → StartsWith answer random may_show limits scope builder context t s span
  recorded a parent own span e r p o h =
      let under : Records may_show limits scope builder (parent_of context) own a.attributes span = subst (λ (x : Option SpanContextRecord). Records may_show limits scope builder x own a.attributes span) p h in
      let is : own ≡ span_context_of t s a.decision (has_random_id (parent_of context) random) a.trace_state = o ∙ (λ i. span_context_of t s a.decision (has_random_id (p i) random) a.trace_state) in
      let mine : Records may_show limits scope builder (parent_of context) (span_context_of t s a.decision (has_random_id (parent_of context) random) a.trace_state) a.attributes span = subst (λ (x : SpanContextRecord). Records may_show limits scope builder (parent_of context) x a.attributes span) is under in (
        (λ (f : records (answer (asked builder context t)).decision ≡ false). absurd (cc (f, r, e))),
        (λ _. subst (λ (x : Answer). Records may_show limits scope builder (parent_of context) (span_context_of t s x.decision (has_random_id (parent_of context) random) x.trace_state) x.attributes span) e mine),
      )
