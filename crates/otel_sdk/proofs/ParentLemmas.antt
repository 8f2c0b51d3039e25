-- A span has the ids of its parent from its start on.
use Rattle.std.proofs.Common.{◌≡◌, ℕ, Bool, true, false, List, [], ◌∷◌, fold, Option, Some, None, Result, refl, sym, ap, subst, ◌∙◌, inl, inr}
use Rattle.std.specs.Prelude.{◌⊎◌, if◌then◌else◌}
use Rattle.otel_base.specs.InstrumentationScope.{Scope}
use Rattle.otel_base.specs.KeyValue.{Attribute}
use Rattle.otel_context.specs.Context.{ContextRecord, is_telemetry_suppressed}
use Rattle.otel_ids.specs.SpanContext.{SpanContextRecord}
use Rattle.opentelemetry.specs.Event.{LinkRecord}
use Rattle.opentelemetry.specs.SpanBuilder.{BuilderRecord}
use Rattle.otel_sdk.specs.Sampler.{Asked, Answer}
use Rattle.otel_sdk_span.specs.Span.{SpanState, says_nothing, unrecorded, with_attribute, with_event}
use Rattle.otel_sdk_span.specs.Span.{with_kept_link, with_link, keep_within}
use Rattle.otel_sdk_span.specs.SpanData.{SpanRecord}
use Rattle.otel_sdk_span.specs.declared.limits.SpanLimits.{SpanLimits}
use Rattle.otel_sdk.specs.Parents.{IsChild, IsInTrace, IsUnder}
use Rattle.otel_sdk.specs.Tracer.{IsTraceId, MayBuild, Records, Starts, StartsNew, asked, given_data, has_random_id, parent_of, records, silent, span_context_of, without_ids}
use Rattle.otel_sdk.specs.declared.trace.id_generator.IdError.{IdError}

-- ---- the recorded data keeps its ids

pub record SameIds (d e : SpanRecord) : Type 0 where
  pub own : e.span_context ≡ d.span_context
  pub parent : e.parent_span_id ≡ d.parent_span_id
  pub remote : e.parent_span_is_remote ≡ d.parent_span_is_remote

same-ids : (d : SpanRecord) → SameIds d d
same-ids d = record { own = refl; parent = refl; remote = refl }

then-ids : (d e f : SpanRecord) → SameIds d e → SameIds e f → SameIds d f
then-ids d e f s t = record {
  own = t.own ∙ s.own;
  parent = t.parent ∙ s.parent;
  remote = t.remote ∙ s.remote;
}

child-same : (p : Option SpanContextRecord) (d e : SpanRecord) → SameIds d e → IsChild p d → IsChild p e
child-same None d e s h = (s.parent ∙ h.0, s.remote ∙ h.1)
child-same (Some p) d e s h = (ap (λ (c : SpanContextRecord). c.trace_id) s.own ∙ h.0, s.parent ∙ h.1, s.remote ∙ h.2)

link-same_of : (b : Bool) (limits : SpanLimits) (d : SpanRecord) (l : LinkRecord)
    → SameIds d (if b then d else with_kept_link limits d l)
link-same_of true limits d l = same-ids d
link-same_of false limits d l = record { own = refl; parent = refl; remote = refl }

pub link-same : (limits : SpanLimits) (d : SpanRecord) (l : LinkRecord) → SameIds d (with_link limits d l)
link-same limits d l = link-same_of (says_nothing l) limits d l

fold-same : {X : Type 0} (f : SpanRecord → X → SpanRecord) → ((d : SpanRecord) (x : X) → SameIds d (f d x))
    → (xs : List X) (d : SpanRecord) → SameIds d (fold f d xs)
fold-same f h [] d = same-ids d
fold-same f h (x ∷ xs) d = then-ids d (f d x) _ (h d x) (fold-same f h xs (f d x))

within-same : (limits : SpanLimits) (d : SpanRecord) → SameIds d (keep_within limits d)
within-same limits d =
    let empty : SpanRecord = record d { attributes = []; events = []; links = [] } in
    let a : SpanRecord = fold (with_attribute limits) empty d.attributes in
    let e : SpanRecord = fold (with_event limits) a d.events in
    then-ids d empty _ (record { own = refl; parent = refl; remote = refl })
    (then-ids empty a _
    (fold-same (with_attribute limits) (λ x y. record { own = refl; parent = refl; remote = refl }) d.attributes empty)
    (then-ids a e _ (fold-same (with_event limits) (λ x y. record { own = refl; parent = refl; remote = refl }) d.events a)
    (fold-same (with_link limits) (λ x y. link-same limits x y) d.links e)))

-- ---- starts

without_ids-runs : (p : Option SpanContextRecord) → (without_ids p).has_ended ≡ false
without_ids-runs None = refl
without_ids-runs (Some p) = refl

module _ (may_trace : Result ℕ IdError → Type 0) where
  in-trace : (p : Option SpanContextRecord) (own : SpanContextRecord) → IsTraceId may_trace p own.trace_id → IsInTrace p own
  in-trace None own h = tt
  in-trace (Some p) own h = inr h

  data-child : (scope : Scope) (builder : BuilderRecord) (p : Option SpanContextRecord) (own : SpanContextRecord)
      (sampled : List Attribute) (start : ℕ) → IsTraceId may_trace p own.trace_id
      → IsChild p (given_data scope builder p own sampled start)
  data-child scope builder None own sampled start h = (refl, refl)
  data-child scope builder (Some p) own sampled start h = (h, refl, refl)

silent-under : (p : Option SpanContextRecord) → IsUnder p silent
silent-under None = record { trace = tt; child = tt }
silent-under (Some p) = record { trace = inl refl; child = tt }

without_ids-under : (p : Option SpanContextRecord) → IsUnder p (without_ids p)
without_ids-under None = record { trace = tt; child = tt }
without_ids-under (Some p) = record { trace = inr refl; child = tt }

module _ (answer : Asked → Answer) (random : Bool) (may_trace may_span : Result ℕ IdError → Type 0) (may_show : ℕ → Type 0)
    (is_counted : Type 0) (limits : SpanLimits) (scope : Scope) (builder : BuilderRecord) (context : ContextRecord) (span : SpanState) where
  records-under : (p : Option SpanContextRecord) (own : SpanContextRecord) (sampled : List Attribute) → IsTraceId may_trace p own.trace_id
      → Records may_show limits scope builder p own sampled span → IsUnder p span
  records-under p own sampled t r =
      let d : SpanRecord = given_data scope builder p own sampled r.0 in
      subst (λ (s : SpanState). IsUnder p s) (sym r.2) (record {
        trace = in-trace may_trace p own t;
        child = ((within-same limits d).own, child-same p d (keep_within limits d) (within-same limits d) (data-child may_trace scope builder p own sampled r.0 t));
      })

  decided-under : (b : Bool) (p : Option SpanContextRecord) (own : SpanContextRecord) (sampled : List Attribute) → IsTraceId may_trace p own.trace_id
      → (b ≡ false → span ≡ unrecorded own) → (b ≡ true → Records may_show limits scope builder p own sampled span) → IsUnder p span
  decided-under true p own sampled t d r = records-under p own sampled t (r refl)
  decided-under false p own sampled t d r =
      subst (λ (s : SpanState). IsUnder p s) (sym (d refl)) (record { trace = in-trace may_trace p own t; child = tt })

  decided-runs : (b : Bool) (p : Option SpanContextRecord) (own : SpanContextRecord) (sampled : List Attribute)
      → (b ≡ false → span ≡ unrecorded own) → (b ≡ true → Records may_show limits scope builder p own sampled span) → span.has_ended ≡ false
  decided-runs true p own sampled d r = ap (λ (s : SpanState). s.has_ended) (r refl).2
  decided-runs false p own sampled d r = ap (λ (s : SpanState). s.has_ended) (d refl)

  new-under : StartsNew answer random may_trace may_span may_show is_counted limits scope builder context span → IsUnder (parent_of context) span
  new-under m =
      let p : Option SpanContextRecord = parent_of context in
      let a : Answer = answer (asked builder context m.0) in
      let own : SpanContextRecord = span_context_of m.0 m.1 a.decision (has_random_id p random) a.trace_state in
      decided-under (records a.decision) p own a.attributes m.2 m.4.0 m.4.1

  new-runs : StartsNew answer random may_trace may_span may_show is_counted limits scope builder context span → span.has_ended ≡ false
  new-runs m =
      let p : Option SpanContextRecord = parent_of context in
      let a : Answer = answer (asked builder context m.0) in
      let own : SpanContextRecord = span_context_of m.0 m.1 a.decision (has_random_id p random) a.trace_state in
      decided-runs (records a.decision) p own a.attributes m.4.0 m.4.1

  starts-under : Starts answer random may_trace may_span may_show is_counted limits scope builder context span → IsUnder (parent_of context) span
  starts-under (inl m) = new-under m
  starts-under (inr w) = subst (λ (s : SpanState). IsUnder (parent_of context) s) (sym w.3) (without_ids-under (parent_of context))

  -- a span that was started hasn't ended
  pub starts-runs : Starts answer random may_trace may_span may_show is_counted limits scope builder context span → span.has_ended ≡ false
  starts-runs (inl m) = new-runs m
  starts-runs (inr w) = ap (λ (s : SpanState). s.has_ended) w.3 ∙ without_ids-runs (parent_of context)

  is-silent-under : span ≡ silent → IsUnder (parent_of context) span
  is-silent-under e = subst (λ (s : SpanState). IsUnder (parent_of context) s) (sym e) (silent-under (parent_of context))

  either-under : (is_read : Bool → Type 0) → (is_read true × (span ≡ silent))
      ⊎ (is_read false × Starts answer random may_trace may_span may_show is_counted limits scope builder context span)
      → IsUnder (parent_of context) span
  either-under is_read (inl h) = is-silent-under h.1
  either-under is_read (inr h) = starts-under h.1

  build-under_of : (is_read : Bool → Type 0) (b : Bool) → (b ≡ true → span ≡ silent)
      → (b ≡ false → (is_read true × (span ≡ silent))
      ⊎ (is_read false × Starts answer random may_trace may_span may_show is_counted limits scope builder context span))
      → IsUnder (parent_of context) span
  build-under_of is_read true s o = is-silent-under (s refl)
  build-under_of is_read false s o = either-under is_read (o refl)

  pub build-under : (is_read : Bool → Type 0) → MayBuild answer random may_trace may_span may_show is_counted limits scope builder context is_read span
      → IsUnder (parent_of context) span
  build-under is_read h = build-under_of is_read (is_telemetry_suppressed context) h.0 h.1
